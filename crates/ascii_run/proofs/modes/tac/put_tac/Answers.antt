use Rattle.std.proofs.Common.{arith}
use Rattle.ascii_run.proofs.OutputBufferLemmas.{shows_one_more}
use Rattle.ascii_run.proofs.modes.tac.put_tac.Goals as goal

pub loop-body-preserved : goal.loop-body-preserved
loop-body-preserved g c = grind (arith, shows_one_more)
