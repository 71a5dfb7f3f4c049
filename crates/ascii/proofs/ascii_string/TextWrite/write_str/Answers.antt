use Rattle.std.proofs.Common.{arith}
use Rattle.ascii.proofs.TextLemmas.{Writes-refused, no_text}
use Rattle.ascii.proofs.ascii_string.TextWrite.write_str.Goals as goal

pub returns-in_default-clause-writes : goal.returns-in_default-clause-writes
returns-in_default-clause-writes g c = grind (arith, Writes-refused, no_text)
