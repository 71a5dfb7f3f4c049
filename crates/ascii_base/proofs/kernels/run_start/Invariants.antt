use Rattle.std.proofs.Common.{ℕ, ◌<◌, ◌≤◌, get_or}
use Rattle.ascii_base.specs.Bytes.{IsOnSide}
use Rattle.ascii_base.proofs.kernels.run_start.Given as goal

-- the bytes from `at` on are on the side
abbrev pub invariant-loop-at : goal.invariant-loop-at
invariant-loop-at g l =
    (k : ℕ) → l.at ≤ k → k < l.to → IsOnSide g.C.Class.is l.inside (get_or l.bytes k 0)
