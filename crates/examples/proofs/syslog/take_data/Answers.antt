use Rattle.std.proofs.Common.{◌≡◌, [], ◌∷◌, ◌++◌, rules}
use Rattle.std.proofs.lemmas.List.Elements.{All-push}
use Rattle.ascii_formats.proofs.PartsLemmas.{followed_more}
use Rattle.examples.specs.Log.{IsElement, element_text}
use Rattle.examples.proofs.syslog.take_data.Goals as goal

pub elements-preserved : goal.elements-preserved
elements-preserved c =
    let (followed, all) = c.elements.invariant in
    let (is, more) = c.in_ok-element.ensures in
    let longer : c.push.new.self.items ≡ c.elements.elements.items ++ c.in_ok-element.element ∷ [] =
    search rules in (
      followed_more element_text [] _ _ _ _ _ _ longer followed more,
      rw longer (All-push IsElement _ _ all is),
    )
