use Rattle.std.proofs.lemmas.Map.Made.{is_some-lookup}
use Rattle.std.proofs.Common.{◌∙◌}
use Rattle.std.specs.Str.{bytes_eq}
use Rattle.ascii.specs.View.{text_of}
use Rattle.ascii_keys.proofs.sets.AsciiSet.contains.Goals as goal

pub returns : goal.returns
returns c = rw (← c.self.view_is)
    (c.contains_key.ensures ∙ is_some-lookup (bytes_eq (text_of c.args.text)) c.self.inside.map)
