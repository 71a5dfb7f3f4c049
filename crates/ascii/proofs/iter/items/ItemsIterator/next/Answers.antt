use Rattle.std.proofs.Common.{arith}
use Rattle.ascii.proofs.LeftLemmas.{text_step, texts_left}
use Rattle.ascii.proofs.iter.items.ItemsIterator.next.Goals as goal

pub returns-clause-steps : goal.returns-clause-steps
returns-clause-steps g c = grind (arith, texts_left, text_step)
