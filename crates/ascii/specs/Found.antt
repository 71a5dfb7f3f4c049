-- One way to find the pieces and the lines of a text. Public clauses cite `pieces_of` and
-- `piece_spans`, directly or by a definition over them; only private functions cite the others. The
-- calls that make the iterators ensure that it finds the pieces or lines, and that nothing else is
-- them.
use Rattle.std.specs.Prelude.{◌≡◌, ℕ, ◌+◌, ◌-◌, ◌≤◌, List, [], ◌∷◌, ◌++◌, ◌⊎◌, length, take}
use Rattle.std.specs.Prelude.{slice_index_or, cond, Bool, ◌==◌, false, true, Option}
use Rattle.std.specs.Prelude.{zero, suc}
use Rattle.std.specs.List.{All, filter, join_with_byte, slice_split}
use Rattle.memchr.specs.Find.{occurs_at}
use Rattle.ascii.specs.declared.iter.cursor.Cursor.{Cursor}
use Rattle.ascii.specs.declared.iter.spans.Ending.TheVariants.{Lf, CrLf, Absent}
use Rattle.ascii.specs.declared.iter.walks.End.{End}
use Rattle.ascii.specs.declared.iter.walks.End.TheVariants.{Front, Back}
use Rattle.ascii.specs.Lines.{Line}
use Rattle.ascii.specs.Spans.{WithStart, with_starts, piece_size, line_size}
use Rattle.ascii.specs.View.{text_of}

-- no code of `codes` is `on`
abbrev pub HasNo : ℕ → List ℕ → Type 0
HasNo on codes = All (λ code. (code == on) ≡ false) codes

-- ---- pieces

-- the pieces of `text` at `on`
abbrev pub pieces_of : ℕ → List ℕ → List (List ℕ)
pieces_of on text = slice_split (λ code. code == on) text

-- at most `n` of `pieces`, of which the n-th is the rest of them joined by `on`
abbrev pub pieces_up_to : ℕ → ℕ → List (List ℕ) → List (List ℕ)
pieces_up_to on n [] = []
pieces_up_to on zero (piece ∷ pieces) = []
pieces_up_to on (suc zero) (piece ∷ pieces) = join_with_byte on (piece ∷ pieces) ∷ []
pieces_up_to on (suc (suc n)) (piece ∷ pieces) = piece ∷ pieces_up_to on (suc n) pieces

-- ---- lines

-- whether the last code of the body is CR
abbrev pub ends_in_cr : List ℕ → Bool
ends_in_cr body = slice_index_or body (length body - 1) 0 == 13

-- the line of what comes before an LF: a CR at its end belongs to the ending
abbrev pub terminated_line : List ℕ → Line
terminated_line piece = cond (ends_in_cr piece)
    (record { body = take (length piece - 1) piece; ending = CrLf })
    (record { body = piece; ending = Lf })

-- the line after the last LF, or no line if nothing comes after it
abbrev pub unterminated_line : List ℕ → List Line
unterminated_line [] = []
unterminated_line (x ∷ xs) = record { body = x ∷ xs; ending = Absent } ∷ []

-- the lines of a text, from its pieces at LF
abbrev pub lines_of_pieces : List (List ℕ) → List Line
lines_of_pieces [] = []
lines_of_pieces (piece ∷ []) = unterminated_line piece
lines_of_pieces (piece ∷ next ∷ others) = terminated_line piece ∷ lines_of_pieces (next ∷ others)

-- the lines of `text`
abbrev pub lines_of : List ℕ → List Line
lines_of text = lines_of_pieces (pieces_of 10 text)

-- ---- what an iterator has yet to search

-- the text of a cursor, with its start
abbrev pub part_in : Cursor → WithStart (List ℕ)
part_in cursor = record { start = cursor.start; item = text_of cursor.view }

-- the pieces of a part at `on`, laid end to end from its start
abbrev pub piece_spans : ℕ → WithStart (List ℕ) → List (WithStart (List ℕ))
piece_spans on part = with_starts piece_size part.start (pieces_of on part.item)

-- the lines of a part, laid end to end from its start
abbrev pub line_spans : WithStart (List ℕ) → List (WithStart Line)
line_spans part = with_starts line_size part.start (lines_of part.item)

-- ---- where a part is cut

-- the cut of a part at one code `on`: what comes before that code, and what comes after it
pub record IsSplitAt (on : ℕ) (part : WithStart (List ℕ)) (cut : Cursor × Cursor) : Type 0 where
  pub text : part.item ≡ text_of cut.0.view ++ on ∷ text_of cut.1.view
  pub before : cut.0.start ≡ part.start
  pub behind : cut.1.start ≡ part.start + (length (text_of cut.0.view) + 1)

-- the cut of a part at its first `on`
abbrev pub IsSplitAtFirst : ℕ → WithStart (List ℕ) → Cursor × Cursor → Type 0
IsSplitAtFirst on part cut = IsSplitAt on part cut × HasNo on (text_of cut.0.view)

-- the cut of a part at its last `on`
abbrev pub IsSplitAtLast : ℕ → WithStart (List ℕ) → Cursor × Cursor → Type 0
IsSplitAtLast on part cut = IsSplitAt on part cut × HasNo on (text_of cut.1.view)

-- the text is empty or ends in `on`
abbrev pub IsEndedBy : ℕ → List ℕ → Type 0
IsEndedBy on text = (text ≡ []) ⊎ ((front : List ℕ) × (text ≡ front ++ on ∷ []))

-- the cut of a part after its last `on`, or at its start if it has none
pub record IsSplitAfterLast (on : ℕ) (part : WithStart (List ℕ)) (cut : Cursor × Cursor) : Type 0
  where
    pub text : part.item ≡ text_of cut.0.view ++ text_of cut.1.view
    pub before : cut.0.start ≡ part.start
    pub behind : cut.1.start ≡ part.start + length (text_of cut.0.view)
    pub whole : IsEndedBy on (text_of cut.0.view)
    pub free : HasNo on (text_of cut.1.view)

-- `rest` is what `part` has after some whole lines, which end at `place` or before
pub record IsAfterLines (place : ℕ) (part rest : WithStart (List ℕ)) : Type 0 where
  pub before : List ℕ
  pub text : part.item ≡ before ++ rest.item
  pub start : rest.start ≡ part.start + length before
  pub whole : IsEndedBy 10 before
  pub short : length before ≤ place

-- ---- lines that contain a text

-- whether a text contains `needle`
unfoldable pub contains_text : List ℕ → List ℕ → Bool
contains_text needle [] = occurs_at [] needle 0
contains_text needle (c ∷ text) =
    cond (occurs_at (c ∷ text) needle 0) true (contains_text needle text)

-- the lines of a part of whose body `image` contains `needle`
abbrev pub lines_with : (List ℕ → List ℕ) → List ℕ → WithStart (List ℕ) → List (WithStart Line)
lines_with image needle part =
    filter (λ line. contains_text needle (image line.item.body)) (line_spans part)

-- ---- walks

-- a step of an iterator from one of its ends
abbrev pub StepsAt : {S A : Type 0} → (S → Option A → S → Type 0) → (S → Option A → S → Type 0)
    → End → S → Option A → S → Type 0
StepsAt front back Front = front
StepsAt front back Back = back
