use Rattle.std.proofs.Common.{[], ◌∷◌, ◌∙◌}
use Rattle.ascii.specs.Code.{code_of}
use Rattle.ascii.specs.View.{text_of}
use Rattle.ascii_formats.specs.Parts.{part_text}
use Rattle.ascii_formats.proofs.PartsLemmas.{after_cut}
use Rattle.ascii_formats.proofs.parts.Part.split_once.Goals as goal

pub rest-requires : goal.rest-requires
rest-requires c =
    let cut = c.in_ok-before.ensures in
    after_cut (text_of c.in_ok-before.before) (code_of c.args.on ∷ [])
    (text_of c.in_ok-before.after) (part_text c.args.self) (cut.joined ∙ c.text.ensures)
