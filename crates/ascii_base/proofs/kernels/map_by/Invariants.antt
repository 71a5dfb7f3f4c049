use Rattle.std.proofs.Common.{◌≡◌, ◌≤◌, ◌-◌, ◌++◌, map, take, drop, length}
use Rattle.ascii_base.proofs.kernels.map_by.Given as goal

-- the bytes before `at` are mapped, the others are as they were
abbrev pub invariant-loop-at : goal.invariant-loop-at
invariant-loop-at g l = record {
  inside : l.at ≤ length l.bytes;
  mapped :
      l.bytes ≡ map g.I.Image.image (take l.at l.initial.bytes) ++ drop l.at l.initial.bytes;
}

abbrev pub decreases-loop-at : goal.decreases-loop-at
decreases-loop-at g l = length l.bytes - l.at
