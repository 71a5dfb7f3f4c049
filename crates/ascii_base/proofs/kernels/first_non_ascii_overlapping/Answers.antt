use Rattle.std.proofs.Common.{arith}
use Rattle.ascii_base.proofs.LanesLemmas.{before_all, or_zero}
use Rattle.ascii_base.proofs.kernels.first_non_ascii_overlapping.Goals as goal

pub returns-then-marks-eq0 : goal.returns-then-marks-eq0
returns-then-marks-eq0 g c = grind (arith, or_zero, before_all)
