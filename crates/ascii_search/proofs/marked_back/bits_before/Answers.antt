use Rattle.std.proofs.Common.{◌-◌, arith, bit_and}
use Rattle.std.proofs.Math.Nat.{mod-eq_of_lt}
use Rattle.std.proofs.Math.Pow.{pow-lt}
use Rattle.ascii_search.proofs.marked_back.bits_before.Goals as goal

pub returns : goal.returns
returns c = grind (arith, pow-lt, bit_and, mod-eq_of_lt)
