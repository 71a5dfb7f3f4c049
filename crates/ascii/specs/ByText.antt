-- The pieces of a text at each occurrence of another text, and these occurrences.
use Rattle.std.specs.Prelude.{ℕ, zero, suc, ◌+◌, cond, List, [], ◌∷◌, length, ◌≢◌}
use Rattle.std.specs.List.{onto_first}
use Rattle.memchr.specs.Find.{OccursAt, occurs_at}
use Rattle.ascii.specs.Spans.{WithStart, after_piece, with_starts}

module _ (first : ℕ) (others : List ℕ) where
  -- the pieces of what follows `skip` codes of a text, at each occurrence of `first ∷ others`,
  -- found from the left, each after the end of the one before
  abbrev pub pieces_after : ℕ → List ℕ → List (List ℕ)
  pieces_after skip [] = [] ∷ []
  pieces_after (suc skip) (c ∷ text) = pieces_after skip text
  pieces_after zero (c ∷ text) = cond (occurs_at (c ∷ text) (first ∷ others) 0)
      ([] ∷ pieces_after (length others) text) (onto_first c (pieces_after zero text))

-- the pieces of a text at each `needle`; an empty needle occurs nowhere
abbrev pub pieces_at : List ℕ → List ℕ → List (List ℕ)
pieces_at [] text = text ∷ []
pieces_at (first ∷ others) text = pieces_after first others zero text

-- the pieces of a part at each `needle`, laid end to end from its start
abbrev pub piece_spans_at : List ℕ → WithStart (List ℕ) → List (WithStart (List ℕ))
piece_spans_at needle part =
    with_starts (after_piece (length needle)) part.start (pieces_at needle part.item)

-- the needle, if it is not empty, does not occur in the piece
abbrev pub IsFreeOf : List ℕ → List ℕ → Type 0
IsFreeOf needle piece = needle ≢ [] → (k : ℕ) → ¬ (OccursAt piece needle k)

-- a needle between each two of the pieces
abbrev pub matches_between : {A : Type 0} → List ℕ → List A → List (List ℕ)
matches_between needle [] = []
matches_between needle (piece ∷ []) = []
matches_between needle (piece ∷ next ∷ pieces) = needle ∷ matches_between needle (next ∷ pieces)

-- the occurrences of `needle` in a text: one between each two pieces
abbrev pub matches_at : List ℕ → List ℕ → List (List ℕ)
matches_at needle text = matches_between needle (pieces_at needle text)

-- a needle between each two of the pieces, where the first of the two ends
abbrev pub match_spans_between : List ℕ → List (WithStart (List ℕ)) → List (WithStart (List ℕ))
match_spans_between needle [] = []
match_spans_between needle (piece ∷ []) = []
match_spans_between needle (piece ∷ next ∷ pieces) =
    record { start = piece.start + length piece.item; item = needle }
    ∷ match_spans_between needle (next ∷ pieces)

-- the occurrences of `needle` in a part: one between each two pieces
abbrev pub match_spans_at : List ℕ → WithStart (List ℕ) → List (WithStart (List ℕ))
match_spans_at needle part = match_spans_between needle (piece_spans_at needle part)
