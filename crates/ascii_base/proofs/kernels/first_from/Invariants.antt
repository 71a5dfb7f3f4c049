use Rattle.std.proofs.Common.{◌≤◌, ◌-◌, eqb, length, not}
use Rattle.ascii_base.specs.Bytes.{IsOnSide}
use Rattle.ascii_base.specs.Lanes.{AllBefore}
use Rattle.ascii_base.proofs.kernels.first_from.Given as goal

-- the bytes before `at` are on the side
abbrev pub invariant-loop-at : goal.invariant-loop-at
invariant-loop-at g l = record {
  inside : l.at ≤ length l.bytes;
  before : AllBefore (IsOnSide g.C.Class.is (not (eqb g.row.INSIDE 0))) l.bytes l.at;
}

abbrev pub decreases-loop-at : goal.decreases-loop-at
decreases-loop-at g l = length l.bytes - l.at
