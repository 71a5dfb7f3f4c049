use Rattle.std.proofs.Common.{arith}
use Rattle.ascii.proofs.LeftLemmas.{first_placed}
use Rattle.ascii.proofs.iter.items.SpansIterator.next.Goals as goal

pub returns-clause-steps : goal.returns-clause-steps
returns-clause-steps g c = grind (arith, first_placed)
