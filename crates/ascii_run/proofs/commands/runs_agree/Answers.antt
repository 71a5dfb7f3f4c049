use Rattle.ascii_run.proofs.RunsLemmas.{runs_agree}
use Rattle.ascii_run.proofs.commands.runs_agree.Goals as goal

pub returns : goal.returns
returns g c = λ t1 t2 runs. runs_agree _ _ _ runs
