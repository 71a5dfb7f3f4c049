use Rattle.std.proofs.Common.{◌≤◌, ◌-◌, length}
use Rattle.ascii_base.specs.Lanes.{SameBefore}
use Rattle.ascii_base.proofs.kernels.same_from.Given as goal

-- the bytes before `at` are the same when case is ignored
abbrev pub invariant-loop-at : goal.invariant-loop-at
invariant-loop-at l =
    record { inside : l.at ≤ length l.first; before : SameBefore l.first l.second l.at }

abbrev pub decreases-loop-at : goal.decreases-loop-at
decreases-loop-at l = length l.first - l.at
