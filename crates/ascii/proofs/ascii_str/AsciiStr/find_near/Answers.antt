use Rattle.std.proofs.Common.{arith}
use Rattle.ascii_search.proofs.MasksLemmas.{finds_byte, same_finds}
use Rattle.ascii.proofs.ascii_str.AsciiStr.find_near.Goals as goal

pub returns-then-len-eq1 : goal.returns-then-len-eq1
returns-then-len-eq1 c = grind (arith, same_finds, finds_byte)
