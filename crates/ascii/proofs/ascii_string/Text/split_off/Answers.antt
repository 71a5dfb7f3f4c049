use Rattle.std.proofs.Common.{arith}
use Rattle.std.proofs.lemmas.Str.{IsAscii-take}
use Rattle.ascii.proofs.ascii_string.Text.split_off.Goals as goal

pub invariant_of-self-2 : goal.invariant_of-self-2
invariant_of-self-2 g c = grind (arith, IsAscii-take)
