use Rattle.std.proofs.Common.{◌≡◌, take, map, cond}
use lib.Lanes.{chunk}
use Rattle.ascii_base.specs.Class.{in_ranges}
use Rattle.ascii_base.proofs.classes.ByRangesClassBy.marks.Given as goal

-- the lanes that are in one of the ranges so far
abbrev pub invariant-loop-low : goal.invariant-loop-low
invariant-loop-low g l =
    l.is_in ≡ map (λ x. cond (in_ranges (take l.low-index l.low-items) x) 255 0)
    (chunk l.at g.row.N l.bytes)
