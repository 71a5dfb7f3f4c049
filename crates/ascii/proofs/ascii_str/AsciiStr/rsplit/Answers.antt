use Rattle.std.proofs.Common.{arith}
use Rattle.ascii.proofs.ascii_str.AsciiStr.rsplit.Goals as goal

pub returns : goal.returns
returns c = grind arith
