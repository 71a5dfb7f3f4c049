use Rattle.std.proofs.Common.{◌≡◌, ◌+◌, ◌≤◌, length}
use Rattle.ascii_formats.specs.Places.{feeds}
use Rattle.ascii_formats.proofs.line_feeds.count_feeds.Given as goal

-- what is counted, and the LF of the bytes that are left, are all LF
abbrev pub invariant-parts : goal.invariant-parts
invariant-parts l = (l.count + feeds l.rest ≡ feeds l.fn.bytes)
    × (l.count + length l.rest ≤ length l.fn.bytes)

abbrev pub decreases-parts : goal.decreases-parts
decreases-parts l = length l.rest
