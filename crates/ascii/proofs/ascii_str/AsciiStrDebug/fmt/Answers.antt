use Rattle.std.proofs.Common.{arith}
use Rattle.ascii.proofs.DebugLemmas.{debug_str-ascii}
use Rattle.ascii.proofs.ascii_str.AsciiStrDebug.fmt.Goals as goal

pub returns : goal.returns
returns g c = grind (arith, debug_str-ascii)
