use Rattle.std.proofs.Common.{◌≤◌, eqb, length, not}
use Rattle.ascii_base.specs.Bytes.{IsOnSide}
use Rattle.ascii_base.specs.Lanes.{AllFrom}
use Rattle.ascii_base.proofs.kernels.last_before.Given as goal

-- the bytes from `end` on are on the side
abbrev pub invariant-loop-end : goal.invariant-loop-end
invariant-loop-end g l = record {
  inside : l.end ≤ length l.bytes;
  after : AllFrom (IsOnSide g.C.Class.is (not (eqb g.row.INSIDE 0))) l.bytes l.end;
}

abbrev pub decreases-loop-end : goal.decreases-loop-end
decreases-loop-end g l = l.end
