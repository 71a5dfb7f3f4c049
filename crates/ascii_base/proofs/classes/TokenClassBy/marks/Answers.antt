use Rattle.std.proofs.Common.{IsTrue, arith}
use Rattle.ascii_base.proofs.TokenLemmas.{token_ranges}
use Rattle.ascii_base.proofs.classes.TokenClassBy.marks.Goals as goal

pub returns : goal.returns
returns g c = grind (arith, IsTrue, token_ranges)
