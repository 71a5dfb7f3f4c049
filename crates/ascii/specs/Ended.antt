-- The pieces of a text with the last one left out if it is empty, and with their separators kept.
use Rattle.std.specs.Prelude.{◌≢◌, ℕ, ◌-◌, cond, List, [], ◌∷◌, ◌++◌, length, take}
use Rattle.std.specs.List.{Contains}
use Rattle.ascii.specs.ByClass.{has_some}
use Rattle.ascii.specs.Found.{piece_spans, pieces_of}
use Rattle.ascii.specs.Spans.{WithStart}

-- what `each` makes of every item but the last, and then what `last` makes of that one
abbrev pub with_last : {A B : Type 0} → (A → B) → (A → List B) → List A → List B
with_last each last [] = []
with_last each last (item ∷ []) = last item
with_last each last (item ∷ next ∷ items) = each item ∷ with_last each last (next ∷ items)

-- the piece, or nothing if it is empty
abbrev pub some_piece : List ℕ → List (List ℕ)
some_piece piece = cond (has_some piece) (piece ∷ []) []

-- the pieces of `text` at `on`, without the last one if it is empty
abbrev pub terminated : ℕ → List ℕ → List (List ℕ)
terminated on text = with_last (λ piece. piece) some_piece (pieces_of on text)

-- the pieces of `text` at `on`, each with the `on` after it, without the last one if it is empty
abbrev pub inclusive : ℕ → List ℕ → List (List ℕ)
inclusive on text = with_last (λ piece. piece ++ on ∷ []) some_piece (pieces_of on text)

-- the piece, or nothing if it is empty
abbrev pub some_span : WithStart (List ℕ) → List (WithStart (List ℕ))
some_span span = cond (has_some span.item) (span ∷ []) []

-- what `each` makes of every piece of a part but the last, with its start, and then the last piece,
-- unless it is empty
abbrev pub spans_with_last
    : (List ℕ → List ℕ) → ℕ → WithStart (List ℕ) → List (WithStart (List ℕ))
spans_with_last each on part = with_last
    (λ span. record { start = span.start; item = each span.item }) some_span (piece_spans on part)

-- the pieces of a part at `on`, without the last one if it is empty
abbrev pub terminated_spans : ℕ → WithStart (List ℕ) → List (WithStart (List ℕ))
terminated_spans = spans_with_last (λ piece. piece)

-- the pieces of a part at `on`, each with the `on` after it, without the last one if it is empty
abbrev pub inclusive_spans : ℕ → WithStart (List ℕ) → List (WithStart (List ℕ))
inclusive_spans on = spans_with_last (λ piece. piece ++ on ∷ []) on

-- the item is not empty, and contains `on` at most as its last code
pub record EndsAtMost (on : ℕ) (item : List ℕ) : Type 0 where
  pub some : item ≢ []
  pub free : ¬ (Contains (take (length item - 1) item) on)
