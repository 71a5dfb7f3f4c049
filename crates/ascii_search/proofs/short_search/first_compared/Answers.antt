use Rattle.std.proofs.Common.{arith}
use Rattle.ascii_search.proofs.MasksLemmas.{found_first}
use Rattle.ascii_search.proofs.short_search.first_compared.Goals as goal

pub returns-2 : goal.returns-2
returns-2 g c = grind (arith, found_first)
