use Rattle.std.proofs.Common.{ap, reverse, sym, ◌∙◌}
use Rattle.std.proofs.lemmas.List.{reverse-reverse}
use Rattle.ascii.specs.Found.{part_in}
use Rattle.ascii.proofs.iter.backwards.BackwardsCut.has_none.Goals as goal

pub returns : goal.returns
returns g c =
    let spans = (g.C.Cut.cut c.args.self.cut).spans (part_in c.args.part) in (
      λ is. ap reverse (c.has_none.ensures.0 is),
      λ none. c.has_none.ensures.1 (sym (reverse-reverse spans) ∙ ap reverse none),
    )
