use Rattle.std.proofs.Common.{◌-◌, eqb, not}
use Rattle.ascii_base.specs.Bytes.{IsOnSide}
use Rattle.ascii_base.specs.Lanes.{AllFrom}
use Rattle.ascii_base.proofs.kernels.last_one_by_one.Given as goal

-- the bytes that were tested, and those after them, are on the side
abbrev pub invariant-loop-after : goal.invariant-loop-after
invariant-loop-after g l =
    AllFrom (IsOnSide g.C.Class.is (not (eqb g.row.INSIDE 0))) l.bytes (l.to - l.after)
