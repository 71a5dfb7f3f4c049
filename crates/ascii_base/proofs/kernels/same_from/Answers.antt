use Rattle.std.proofs.Common.{arith}
use Rattle.ascii_base.proofs.CaseLemmas.{same_front}
use Rattle.ascii_base.proofs.kernels.same_from.Goals as goal

pub returns-then-not-eq_lanes : goal.returns-then-not-eq_lanes
returns-then-not-eq_lanes c = grind (arith, same_front)
