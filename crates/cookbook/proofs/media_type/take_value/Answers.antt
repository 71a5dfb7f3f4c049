use Rattle.std.proofs.Common.{◌∙◌, [], ◌∷◌, ◌++◌, ap, append_assoc, inr, refl}
use Rattle.ascii_formats.specs.Parts.{part_text}
use Rattle.cookbook.proofs.media_type.take_value.Goals as goal

pub returns-in-Ok : goal.returns-in-Ok
returns-in-Ok c =
    let inside = part_text c.in-Ok.taken.0 in
    let quoted = c.in-Ok.ensures.text in (
      34 ∷ (inside ++ 34 ∷ []),
      inr (quoted.quotable, refl),
      ap (λ l. 34 ∷ l) (append_assoc inside (34 ∷ []) (part_text c.in-Ok.taken.1)) ∙ quoted.joined,
      c.in-Ok.ensures.place.whole_after,
    )
