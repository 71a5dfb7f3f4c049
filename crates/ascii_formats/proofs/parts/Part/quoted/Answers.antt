use Rattle.std.proofs.Common.{[], ◌∷◌, ◌∙◌}
use Rattle.ascii.specs.Code.{code_of}
use Rattle.ascii.specs.View.{text_of}
use Rattle.ascii_formats.specs.Parts.{part_text}
use Rattle.ascii_formats.proofs.PartsLemmas.{after_cut}
use Rattle.ascii_formats.proofs.parts.Part.quoted.Goals as goal

pub rest-requires : goal.rest-requires
rest-requires c =
    let quote = code_of c.args.quote in
    after_cut (quote ∷ text_of c.in-Ok.inside) (quote ∷ []) (text_of c.in-Ok.rest)
    (part_text c.args.self) (c.in-Ok.ensures.joined ∙ c.text.ensures)
