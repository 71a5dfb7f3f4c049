use Rattle.std.proofs.Common.{[], ◌∷◌, ◌∙◌}
use Rattle.ascii.specs.Code.{code_of}
use Rattle.ascii_formats.proofs.parts.Part.strip_prefix_char.Goals as goal

pub rest-requires : goal.rest-requires
rest-requires c =
    (code_of c.args.ch ∷ [], c.in_ok-rest.ensures ∙ c.text.ensures)
