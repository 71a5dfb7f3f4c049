use Rattle.ascii_base.specs.Lanes.{Marks}
use Rattle.ascii_base.proofs.classes.marks_one_by_one.Given as goal

-- the first `k` bytes are marked
abbrev pub invariant-loop-k : goal.invariant-loop-k
invariant-loop-k g l = Marks g.C.Class.is l.bytes l.at l.k l.marked
