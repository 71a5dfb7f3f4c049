use Rattle.std.proofs.Common.{arith, eqb, not}
use Rattle.ascii_search.proofs.MarkedLemmas.{no_marks, run_from}
use Rattle.ascii_search.proofs.marked.near_run.Goals as goal

pub returns : goal.returns
returns g c = grind (arith, not, eqb, run_from, no_marks)
