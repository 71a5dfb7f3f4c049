use Rattle.std.proofs.Common.{◌≡◌, ◌+◌, ◌≤◌, drop}
use Rattle.ascii_formats.specs.Places.{feeds}
use Rattle.ascii_formats.proofs.line_feeds.count_few.Given as goal

-- what is counted, and the LF that are left, are all LF
abbrev pub invariant-loop-byte : goal.invariant-loop-byte
invariant-loop-byte l =
    (l.count + feeds (drop l.byte-index l.bytes) ≡ feeds l.bytes) × (l.count ≤ l.byte-index)
