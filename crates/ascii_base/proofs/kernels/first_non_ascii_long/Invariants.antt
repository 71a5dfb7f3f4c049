use Rattle.std.proofs.Common.{◌<◌, ◌≤◌, ◌-◌, length}
use Rattle.ascii_base.specs.Lanes.{AllBefore}
use Rattle.ascii_base.proofs.kernels.first_non_ascii_long.Given as goal

-- the bytes before `at` are ASCII
abbrev pub invariant-loop-at : goal.invariant-loop-at
invariant-loop-at l =
    record {
      inside : l.at ≤ length l.bytes;
      before : AllBefore (λ byte. byte < 128) l.bytes l.at;
    }

abbrev pub decreases-loop-at : goal.decreases-loop-at
decreases-loop-at l = length l.bytes - l.at
