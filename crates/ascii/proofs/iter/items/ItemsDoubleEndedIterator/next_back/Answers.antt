use Rattle.std.proofs.Common.{arith}
use Rattle.std.proofs.lemmas.List.{map-append}
use Rattle.ascii.proofs.LeftLemmas.{text_step, texts_left}
use Rattle.ascii.proofs.iter.items.ItemsDoubleEndedIterator.next_back.Goals as goal

pub returns-clause-steps : goal.returns-clause-steps
returns-clause-steps g c = grind (arith, texts_left, map-append, text_step)
