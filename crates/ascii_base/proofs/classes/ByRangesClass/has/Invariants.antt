use Rattle.std.proofs.Common.{◌≡◌, take}
use Rattle.ascii_base.specs.Class.{in_ranges}
use Rattle.ascii_base.proofs.classes.ByRangesClass.has.Given as goal

-- whether the byte is in one of the ranges so far
abbrev pub invariant-loop-low : goal.invariant-loop-low
invariant-loop-low g l = l.is_in ≡ in_ranges (take l.low-index l.low-items) l.byte
