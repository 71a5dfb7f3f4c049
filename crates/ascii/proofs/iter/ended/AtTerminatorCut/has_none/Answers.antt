use Rattle.ascii_base.specs.Code.{code_of}
use Rattle.ascii.specs.Found.{part_in}
use Rattle.ascii.proofs.EndedLemmas.{ended_empty, ended_none}
use Rattle.ascii.proofs.iter.ended.AtTerminatorCut.has_none.Goals as goal

pub returns : goal.returns
returns c =
    let on = code_of c.args.self.on in
    let part = part_in c.args.part in (
      λ is. ended_none (λ piece. piece) on part (c.is_empty.ensures.0 is),
      λ none. c.is_empty.ensures.1 (ended_empty (λ piece. piece) on part none),
    )
