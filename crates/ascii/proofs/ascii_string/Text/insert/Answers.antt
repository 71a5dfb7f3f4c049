use Rattle.std.proofs.Common.{arith}
use Rattle.ascii.proofs.TextLemmas.{IsAscii-insert}
use Rattle.ascii.proofs.ascii_string.Text.insert.Goals as goal

pub invariant_of-self : goal.invariant_of-self
invariant_of-self g c = grind (arith, IsAscii-insert)
