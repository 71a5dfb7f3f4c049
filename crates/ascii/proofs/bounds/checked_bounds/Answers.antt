use Rattle.std.proofs.Common.{arith}
use Rattle.ascii.proofs.SliceLemmas.{FirstOther-shift}
use Rattle.ascii.proofs.bounds.checked_bounds.Goals as goal

pub returns-in-Some : goal.returns-in-Some
returns-in-Some c = grind (arith, FirstOther-shift)
