use Rattle.std.proofs.Common.{arith}
use Rattle.std.proofs.lemmas.List.{length-map}
use Rattle.ascii.proofs.SpansLemmas.{same_lines}
use Rattle.ascii.proofs.StepsLemmas.{runs_in_order, runs_in_reverse}
use Rattle.ascii.proofs.ascii_str.AsciiStr.lines.Goals as goal

pub returns-clause-iterates : goal.returns-clause-iterates
returns-clause-iterates c = grind (arith, same_lines, length-map)

pub returns-clause-loops : goal.returns-clause-loops
returns-clause-loops c = runs_in_order _ _ _

pub returns-clause-loops_back : goal.returns-clause-loops_back
returns-clause-loops_back c = runs_in_reverse _ _ _
