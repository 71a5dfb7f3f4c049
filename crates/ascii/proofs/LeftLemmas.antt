-- What a cut leaves of a part.
use Rattle.std.proofs.Common.{◌≡◌, ℕ, ◌+◌, ◌-◌, ◌≤◌, List, [], ◌∷◌, ◌++◌, length, take, drop, sym}
use Rattle.std.proofs.Common.{ap, ◌∙◌, append_assoc, arith, length-append, length-take-le, subst}
use Rattle.std.proofs.Common.{Some}
use Rattle.std.proofs.Math.Seq.{drop-append_seam, take-append_seam}
use Rattle.std.proofs.lemmas.List.{get_or_push, length_push, take-append-drop}
use Rattle.ascii.specs.declared.iter.cursor.Cursor.{Cursor}
use Rattle.ascii.specs.Found.{IsSplitAt, part_in}
use Rattle.std.proofs.lemmas.List.Elements.{All-head}
use Rattle.ascii.specs.Parts.{IsBefore, IsAfter, WithStart, part_end}
use Rattle.ascii.specs.View.{text_of}
use Rattle.ascii.specs.declared.iter.spans.SplitSpan.{SplitSpan}
use Rattle.ascii.specs.Cutting.{Cutting, IsLawful}
use Rattle.ascii.specs.Pieces.{Remaining}
use Rattle.ascii.specs.Placed.{ArePlaced, IsPlaced}
use Rattle.ascii.specs.Spans.{items_of}
use Rattle.ascii.specs.Steps.{Side, StepsSpan, StepsText}

module _ (gap : ℕ) (part item : WithStart (List ℕ)) where
  pub after_text : (tail : WithStart (List ℕ)) (front : List ℕ) → part.item ≡ front ++ tail.item
      → tail.start ≡ part.start + length front → tail.start ≡ part_end item + gap
      → IsAfter gap part item tail
  after_text tail front joined start gapped =
      let size : length part.item ≡ length front + length tail.item =
      ap length joined ∙ length-append front tail.item in
      let long : tail.start - part.start ≡ length front = omega (arith, start) in
      grind (arith, drop-append_seam)

  pub before_text : (front : WithStart (List ℕ)) (behind : List ℕ)
      → part.item ≡ front.item ++ behind → front.start ≡ part.start
      → part_end front + gap ≡ item.start → IsBefore gap part item front
  before_text front behind joined start gapped =
      let long : part_end front - part.start ≡ length front.item = omega (arith, start) in
      grind (arith, take-append_seam)

  -- a part that is left from a place on, or up to a place
  pub after_place : (tail : WithStart (List ℕ)) (place : ℕ) → place ≤ length part.item
      → tail.start ≡ part.start + place → tail.item ≡ drop place part.item
      → part_end item + gap ≡ part.start + place → IsAfter gap part item tail
  after_place tail place inside start text gapped =
      let size : length (take place part.item) ≡ place = length-take-le place part.item inside in
      grind (arith, after_text, take-append-drop place part.item)

  pub before_place : (front : WithStart (List ℕ)) (place : ℕ) → place ≤ length part.item
      → front.start ≡ part.start → front.item ≡ take place part.item
      → part.start + place + gap ≡ item.start → IsBefore gap part item front
  before_place front place inside start text gapped =
      grind (arith, length-take-le, before_text, take-append-drop)

-- what a cut at one code leaves
module _ (on : ℕ) (part item : WithStart (List ℕ)) (cut : Cursor × Cursor) (is : IsSplitAt on part cut) where
  pub after_split : item ≡ part_in cut.0 → IsAfter 1 part item (part_in cut.1)
  after_split same =
      let a = text_of cut.0.view in
      after_text 1 part item (part_in cut.1) (a ++ on ∷ [])
      (is.text ∙ sym (append_assoc a (on ∷ []) (text_of cut.1.view)))
      (omega (arith, is.behind, length-append a (on ∷ [])))
      (omega (arith, ap part_end same, is.before, is.behind))

  pub before_split : item ≡ part_in cut.1 → IsBefore 1 part item (part_in cut.0)
  before_split same = before_text 1 part item (part_in cut.0) (on ∷ text_of cut.1.view) is.text is.before
      (omega (arith, ap (λ one. one.start) same, is.before, is.behind))

  -- the item with the code after it
  pub after_through : item.start ≡ part.start → item.item ≡ text_of cut.0.view ++ on ∷ []
      → IsAfter 0 part item (part_in cut.1)
  after_through start text =
      let a = text_of cut.0.view in
      let size = ap length text ∙ length-append a (on ∷ []) in
      after_text 0 part item (part_in cut.1) (a ++ on ∷ [])
      (is.text ∙ sym (append_assoc a (on ∷ []) (text_of cut.1.view)))
      (omega (arith, is.behind, length-append a (on ∷ [])))
      (omega (arith, start, size, is.behind))

-- ---- a step over items without their starts

abbrev pub texts_left : {C : Type 0} → Remaining C (WithStart (List ℕ)) → Remaining C (List ℕ)
texts_left left = record { on = left.on; items = items_of left.items; rest = left.rest }

module _ {C : Type 0} (side : Side) (cuts : C → Cutting) (old new : Remaining C (WithStart (List ℕ)))
    (span : SplitSpan) where
  pub text_step : StepsSpan side cuts old (Some span) new
      → StepsText side cuts (texts_left old) (Some span.text) (texts_left new)
  text_step is = grind arith

-- an item that was cut off is in the part
module _ (cut : Cutting) (laws : IsLawful cut) (part span : WithStart (List ℕ))
    (others : List (WithStart (List ℕ))) where
  pub first_placed : cut.spans part ≡ span ∷ others → IsPlaced part.start part.item span
  first_placed is = All-head (IsPlaced part.start part.item) span others
      (subst (ArePlaced part.start part.item) is (laws.placed part))

  pub last_placed : cut.spans part ≡ others ++ span ∷ [] → IsPlaced part.start part.item span
  last_placed is =
      let all = subst (ArePlaced part.start part.item) is (laws.placed part) in
      grind (arith, get_or_push, length_push)
