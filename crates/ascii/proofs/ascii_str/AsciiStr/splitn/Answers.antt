use Rattle.ascii_base.specs.Code.{code_of}
use Rattle.ascii.specs.View.{text_of}
use Rattle.ascii.proofs.StepsLemmas.{runs_in_order}
use Rattle.ascii.proofs.UpToLemmas.{up_to_iterates}
use Rattle.ascii.proofs.ascii_str.AsciiStr.splitn.Goals as goal

pub returns-clause-iterates : goal.returns-clause-iterates
returns-clause-iterates c =
    let split = c.split.result in
    let whole = c.split.ensures.iterates.pieces in
    rw c.split.ensures.iterates.separator (up_to_iterates (code_of c.args.on) c.args.n
    (text_of c.args.self) split.items whole)

pub returns-clause-loops : goal.returns-clause-loops
returns-clause-loops c = runs_in_order _ _ _
