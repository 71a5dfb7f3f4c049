use Rattle.ascii_run.proofs.RunsLemmas.{run_plain}
use Rattle.ascii_run.proofs.commands.plain_run.Goals as goal

pub returns : goal.returns
returns g c = λ sure t t2 run none. run_plain sure t _ _ t2 run none
