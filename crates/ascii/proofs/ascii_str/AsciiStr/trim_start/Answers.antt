use Rattle.std.proofs.Common.{arith}
use Rattle.ascii.proofs.TrimLemmas.{TrimsStart-cut}
use Rattle.ascii.proofs.ascii_str.AsciiStr.trim_start.Goals as goal

pub returns : goal.returns
returns c = grind (arith, TrimsStart-cut)
