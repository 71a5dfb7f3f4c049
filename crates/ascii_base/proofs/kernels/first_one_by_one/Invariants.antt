use Rattle.std.proofs.Common.{eqb, not}
use Rattle.ascii_base.specs.Bytes.{IsOnSide}
use Rattle.ascii_base.specs.Lanes.{AllBefore}
use Rattle.ascii_base.proofs.kernels.first_one_by_one.Given as goal

-- the bytes before `at` are on the side
abbrev pub invariant-loop-at : goal.invariant-loop-at
invariant-loop-at g l = AllBefore (IsOnSide g.C.Class.is (not (eqb g.row.INSIDE 0))) l.bytes l.at
