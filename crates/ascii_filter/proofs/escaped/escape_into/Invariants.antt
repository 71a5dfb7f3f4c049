use Rattle.std.proofs.Common.{◌≡◌, ◌≤◌, ◌*◌, length, take}
use Rattle.std.specs.List.{flat_map}
use Rattle.ascii_filter.specs.Options.{escaped}
use Rattle.ascii_filter.proofs.escaped.escape_into.Given as goal

-- the bytes before the index are written
abbrev pub invariant-loop-byte : goal.invariant-loop-byte
invariant-loop-byte l = (take l.end l.buf ≡ flat_map escaped (take l.byte-index l.bytes))
    × (l.byte-index ≤ l.end) × (l.end ≤ 4 * l.byte-index)
    × (length l.buf ≡ length l.initial.buf)
