use Rattle.std.proofs.Common.{◌≡◌, [], ◌∷◌, ◌++◌, rules}
use Rattle.std.proofs.lemmas.List.Elements.{All-push}
use Rattle.ascii_formats.specs.Parts.{part_text}
use Rattle.ascii_formats.proofs.PartsLemmas.{followed_more}
use Rattle.examples.specs.Log.{IsParam, param_text}
use Rattle.examples.proofs.syslog.take_element.Goals as goal

pub params-preserved : goal.params-preserved
params-preserved c =
    let (followed, all) = c.params.invariant in
    let (is, more) = c.in_ok-param.ensures in
    let longer : c.push.new.self.items ≡ c.params.params.items ++ c.in_ok-param.param ∷ [] =
    search rules in (
      followed_more param_text (91 ∷ part_text c.in_ok-id.id) _ _ _ _ _ _ longer followed more,
      rw longer (All-push IsParam _ _ all is),
    )
