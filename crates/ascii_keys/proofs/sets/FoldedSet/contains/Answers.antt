use Rattle.std.proofs.Common.{◌≡◌, ◌∙◌, arith, is_some}
use Rattle.std.proofs.lemmas.Map.Made.{is_some-lookup}
use Rattle.ascii.specs.View.{text_of}
use Rattle.ascii_keys.specs.Maps.{folded_value_at, same_folded}
use Rattle.ascii_keys.proofs.sets.FoldedSet.contains.Goals as goal

pub returns : goal.returns
returns c =
    let text = text_of c.args.text in
    let found : c.is_some.result ≡ is_some (folded_value_at c.self.inside.map text) =
    grind arith in
    rw (← c.self.view_is) (found ∙ is_some-lookup (same_folded text) c.self.inside.map)
