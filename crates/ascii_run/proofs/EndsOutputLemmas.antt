-- The output of a script of ends: one more answer, and the output of a mode.
use Rattle.std.proofs.Common.{◌≡◌, ℕ, ◌+◌, ◌-◌, ◌<◌, ◌≤◌, List, [], ◌∷◌, ◌++◌, length, get_or, take}
use Rattle.std.proofs.Common.{drop, Option, Some, map, ap, ◌∙◌, append-nil, refl, arith}
use Rattle.std.specs.List.{flat_map}
use Rattle.std.specs.Option.{option_map}
use Rattle.std.specs.Borrow.{Bor}
use Rattle.std.specs.Prelude.{slice_get}
use Rattle.std.proofs.lemmas.Grind.{flat_map-append}
use Rattle.std.proofs.lemmas.List.{drop-map, length-map, take-map, take_at, length_push}
use Rattle.std.proofs.lemmas.List.Folds.{flat_map-map}
use Rattle.std.proofs.lemmas.Option.{slice_get-map}
use Rattle.std.proofs.lemmas.Simd.{map-map}
use Rattle.ascii.specs.Lines.{Line}
use Rattle.ascii.specs.Spans.{LineSpansOf, WithStart}
use Rattle.ascii.specs.declared.iter.walks.End.{End}
use Rattle.ascii.specs.declared.iter.walks.End.TheVariants.{Front, Back}
use Rattle.ascii.specs.Walks.{ListAnswersTo, TakesEnd}
use Rattle.ascii.proofs.EndsLemmas.{AnswersTo-all, AnswersTo-step}
use Rattle.ascii_run.specs.Modes.{IsOutput}
use Rattle.ascii_run.specs.Modes.Ends.{answers, mode_of, shown_text}
use Rattle.ascii_run.specs.declared.modes.ends.Shown.{Shown}

-- the last item of a list, and what is left before it
pub last_item : {A : Type 0} (front : List A) (x : A)
    → slice_get (front ++ x ∷ []) (length front) ≡ Some x
last_item [] x = refl
last_item (y ∷ front) x = last_item front x

-- the answers of a list are one list
pub answers_only : {A : Type 0} (items : List A) (script : List End) (found : List (Option A))
    (left : List A)
    → ListAnswersTo items script found left → found ≡ answers script items
answers_only items [] [] left to = refl
answers_only items [] (answer ∷ found) left to = absurd to
answers_only items (end ∷ script) [] left to = absurd to
answers_only items (end ∷ script) (answer ∷ found) left to =
    grind (arith, answers_only to.0 script found left to.2, length_push, last_item, take_at)

-- the output of the answers so far, and of those that are left
abbrev pub ShowsSoFar : {A : Type 0} → (Option A → List ℕ) → List A → List End → List ℕ → List A
    → Type 0
ShowsSoFar {A} shown items script output left =
    (answers : List (Option A)) × ListAnswersTo items script answers left
    × (output ≡ flat_map shown answers)

module _ {A : Type 0} (shown : Option A → List ℕ) (items left : List A) (script : List End)
    (k : ℕ) where
  -- the answers to the ends up to the next place, and their output
  pub shows_more : (mid : List A) (end : End) (answer : Option A) (old new : List ℕ)
      → k < length script → get_or script k end ≡ end
      → ShowsSoFar shown items (take k script) old mid → TakesEnd end mid answer left
      → new ≡ old ++ shown answer
      → ShowsSoFar shown items (take (k + 1) script) new left
  shows_more mid end answer old new inside here so_far takes is =
      let answers = so_far.0 in (
        answers ++ answer ∷ [],
        grind (arith, AnswersTo-step),
        grind (arith, append-nil, flat_map-append),
      )

  -- the answers to the whole script
  pub shows_all : (output : List ℕ) → length script ≤ k
      → ShowsSoFar shown items (take k script) output left
      → output ≡ flat_map shown (answers script items)
  shows_all output past so_far = so_far.2 ∙ ap (flat_map shown)
      (answers_only items script so_far.0 left
      (AnswersTo-all TakesEnd items left script k so_far.0 past so_far.1))

-- ---- the answers to a script

-- ---- the output of a mode

-- the answers of the images of a list are the images of its answers
answers-map : {A B : Type 0} (f : A → B) (script : List End) (items : List A)
    → answers script (map f items) ≡ map (option_map f) (answers script items)
answers-map f [] items = refl
answers-map f (Front ∷ script) items = rw (slice_get-map f items 0, drop-map f 1 items)
    (ap (λ xs. option_map f (slice_get items 0) ∷ xs) (answers-map f script (drop 1 items)))
answers-map f (Back ∷ script) items =
    let last = length items - 1 in
    grind (arith, length-map, slice_get-map, take-map, answers-map f script (take last items))

-- what is shown of the answers of the lines with their starts is the output of the mode
pub output_of_mode : (shown : Shown) (script : Bor (List End)) (text : List ℕ)
    (spans : List (WithStart Line)) (output : List ℕ)
    → LineSpansOf 0 text spans → output ≡ flat_map (shown_text shown) (answers script.now spans)
    → IsOutput (mode_of shown script) text output
output_of_mode shown script text spans output found is =
    grind (arith, flat_map-map, answers-map, map-map)
