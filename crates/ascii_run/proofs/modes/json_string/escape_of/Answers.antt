use Rattle.std.proofs.Common.{arith}
use Rattle.ascii_run.proofs.JsonTextLemmas.{escape_at}
use Rattle.ascii_run.proofs.modes.json_string.escape_of.Goals as goal

pub returns : goal.returns
returns g c = grind (arith, escape_at)
