-- What is taken after other texts, and one more section of a media type.
use Rattle.std.proofs.Common.{◌≡◌, ◌∙◌, ℕ, List, [], ◌∷◌, ◌++◌, Err, Ok, Result, ap}
use Rattle.std.proofs.Common.{append_assoc, arith, subst}
use Rattle.std.specs.List.{flat_map}
use Rattle.std.proofs.lemmas.List.{flat_map_more}
use Rattle.ascii_formats.specs.Parts.{part_text}
use Rattle.ascii_formats.specs.declared.parts.ParseError.{ParseError}
use Rattle.ascii_formats.specs.declared.parts.Part.{Part}
use Rattle.cookbook.specs.MediaType.{IsMissing, Takes}

-- what is taken after `front` is taken with it
pub takes_after : {T : Type 0} (Is Of : List ℕ → T → Type 0) (start after : Part) (front : List ℕ)
    → front ++ part_text after ≡ part_text start → after.whole ≡ start.whole
    → ((written : List ℕ) (found : T) → Is written found → Of (front ++ written) found)
    → (result : Result (T × Part) ParseError) → Takes Is after result → Takes Of start result
takes_after Is Of start after front joined whole says (Ok taken) (written, is, rest, same) = (
  front ++ written,
  says written taken.0 is,
  append_assoc front written (part_text taken.1) ∙ (ap (λ l. front ++ l) rest ∙ joined),
  same ∙ whole,
)
takes_after Is Of start after front joined whole says (Err error) missing =
    subst (λ text. IsMissing text error) whole missing

pub joined_more : {A : Type 0} (written : A → List ℕ) (kind subtype : List ℕ) (sections : List A)
    (section : A) (rest after text : List ℕ)
    → (kind ++ 47 ∷ (subtype ++ flat_map written sections)) ++ rest ≡ text
    → written section ++ after ≡ rest
    → (kind ++ 47 ∷ (subtype ++ flat_map written (sections ++ section ∷ []))) ++ after ≡ text
joined_more written kind subtype sections section rest after text joined more =
    rw (← flat_map_more written subtype sections section)
    (grind (arith, append_assoc, joined, more))
