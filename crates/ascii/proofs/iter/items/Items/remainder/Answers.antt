use Rattle.std.proofs.Common.{arith}
use Rattle.ascii.proofs.SpansLemmas.{items_some}
use Rattle.ascii.proofs.iter.items.Items.remainder.Goals as goal

pub returns-in-Some : goal.returns-in-Some
returns-in-Some g c = grind (arith, items_some)
