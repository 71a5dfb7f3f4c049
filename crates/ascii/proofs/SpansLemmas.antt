-- The pieces and the lines of a text with their starts, and how they break at either end.
use Rattle.std.proofs.Common.{◌≡◌, ◌≢◌, ℕ, suc, ◌+◌, ◌≤◌, List, [], ◌∷◌, ◌++◌, length, append-nil}
use Rattle.std.proofs.Common.{refl, sym, ap, ◌∙◌, subst, arith, length-append}
use Rattle.std.specs.List.{flat_map, join_with_byte}
use Rattle.std.proofs.lemmas.List.Splits.{join_with_byte-slice_split}
use Rattle.ascii.specs.declared.iter.cursor.Cursor.{Cursor}
use Rattle.ascii.specs.declared.iter.spans.Ending.TheVariants.{Absent}
use Rattle.ascii.specs.Found.{HasNo, IsSplitAfterLast, IsSplitAtFirst, IsSplitAtLast, line_spans}
use Rattle.ascii.specs.Found.{lines_of, part_in, piece_spans, pieces_of, terminated_line}
use Rattle.ascii.specs.Lines.{Line, LinesOf, line_text}
use Rattle.ascii.specs.Pieces.{Pieces}
use Rattle.ascii.specs.Spans.{LineSpansOf, PieceSpans, WithStart, items_of, line_size, piece_size}
use Rattle.ascii.specs.Spans.{with_starts}
use Rattle.ascii.specs.View.{text_of}
use Rattle.ascii.proofs.LinesLemmas.{LinesOf-lines_of, LinesOf-only, length-lines_of}
use Rattle.ascii.proofs.LinesLemmas.{line_text-ended, lines_of-split_at_first, lines_of-last_ended}
use Rattle.ascii.proofs.LinesLemmas.{lines_of-last_open, lines_of-open, lines_of-some, not_whole}
use Rattle.ascii.proofs.PiecesLemmas.{Pieces-only, Pieces-pieces_of, length-pieces_of}
use Rattle.ascii.proofs.PiecesLemmas.{pieces_of-split_at_first, pieces_of-split_at_last}
use Rattle.ascii.proofs.PiecesLemmas.{pieces_of-free, slice_split-some}

-- ---- items one after the other

-- how much room items take
abbrev pub room : {A : Type 0} → (A → ℕ) → List A → ℕ
room size [] = 0
room size (item ∷ items) = size item + room size items

pub with_starts-append : {A : Type 0} (size : A → ℕ) (start : ℕ) (xs ys : List A)
    → with_starts size start (xs ++ ys)
    ≡ with_starts size start xs ++ with_starts size (start + room size xs) ys
with_starts-append size start [] ys = ap (λ n. with_starts size n ys) (omega arith)
with_starts-append {A} size start (x ∷ xs) ys =
    grind (arith, with_starts-append size (start + size x) xs ys)

pub with_starts-last : {A : Type 0} (size : A → ℕ) (start : ℕ) (items : List A) (item : A)
    → with_starts size start (items ++ item ∷ []) ≡ with_starts size start items ++ record
    { start = start + room size items; item = item } ∷ []
with_starts-last size start items item = with_starts-append size start items (item ∷ [])

-- the items alone
pub items-with_starts : {A : Type 0} (size : A → ℕ) (start : ℕ) (items : List A)
    → items_of (with_starts size start items) ≡ items
items-with_starts size start [] = refl
items-with_starts size start (item ∷ items) =
    ap (λ others. item ∷ others) (items-with_starts size (start + size item) items)

pub length-with_starts : {A : Type 0} (size : A → ℕ) (start : ℕ) (items : List A)
    → length (with_starts size start items) ≡ length items
length-with_starts size start [] = refl
length-with_starts size start (item ∷ items) =
    ap suc (length-with_starts size (start + size item) items)

-- ---- pieces

-- pieces take the room of the text and one separator
pub room-pieces : (on : ℕ) (pieces : List (List ℕ)) → pieces ≢ []
    → room piece_size pieces ≡ length (join_with_byte on pieces) + 1
room-pieces on [] some = absurd (some refl)
room-pieces on (piece ∷ []) some = omega arith
room-pieces on (piece ∷ next ∷ others) some =
    grind (arith, length-append, room-pieces on (next ∷ others) (λ none. cc))

room-pieces_of : (on : ℕ) (t : List ℕ) → room piece_size (pieces_of on t) ≡ length t + 1
room-pieces_of on t = room-pieces on (pieces_of on t) (slice_split-some _ t)
    ∙ ap (λ xs. length xs + 1) (join_with_byte-slice_split on t)

module _ (on : ℕ) (part : WithStart (List ℕ)) where
  -- the first piece is before the first separator
  pub piece_spans_first : (byte : ℕ) (cut : Cursor × Cursor) (first : WithStart (List ℕ))
      → byte ≡ on → IsSplitAtFirst byte part cut → first ≡ part_in cut.0
      → piece_spans on part ≡ first ∷ piece_spans on (part_in cut.1)
  piece_spans_first byte cut first byte_is found first_is = grind (arith, pieces_of-split_at_first)

  -- the last piece comes after the last separator
  pub piece_spans_last : (byte : ℕ) (cut : Cursor × Cursor) (last : WithStart (List ℕ))
      → byte ≡ on → IsSplitAtLast byte part cut → last ≡ part_in cut.1
      → piece_spans on part ≡ piece_spans on (part_in cut.0) ++ last ∷ []
  piece_spans_last byte cut last byte_is found last_is =
      let is = subst (λ b. IsSplitAtLast b part cut) byte_is found in
      let front = text_of cut.0.view in
      rw (last_is, is.0.before, is.0.behind, ← room-pieces_of on front)
      (ap (with_starts piece_size part.start)
      (pieces_of-split_at_last on part.item front (text_of cut.1.view) is.0.text is.1)
      ∙ with_starts-last piece_size part.start (pieces_of on front) (text_of cut.1.view))

  -- a text without the separator is its one piece
  pub piece_spans_free : (byte : ℕ) (whole : WithStart (List ℕ)) → byte ≡ on
      → HasNo byte part.item → whole ≡ part → piece_spans on part ≡ whole ∷ []
  piece_spans_free byte whole byte_is free whole_is = grind (arith, pieces_of-free)

  -- the pieces found are in the relation, and no others are
  pub piece_spans_found : PieceSpans part.start part.item on (piece_spans on part)
  piece_spans_found = grind (arith, items-with_starts, Pieces-pieces_of)

  pub piece_spans_only : (spans : List (WithStart (List ℕ)))
      → PieceSpans part.start part.item on spans → spans ≡ piece_spans on part
  piece_spans_only spans held = grind (arith, Pieces-only)

  -- there is at most one more than the codes of the text
  pub piece_spans_fit : length (piece_spans on part) ≤ length part.item + 1
  piece_spans_fit = grind (arith, length-with_starts, length-pieces_of)

-- ---- lines

-- lines take the room of the text
pub room-lines : (lines : List Line) → room line_size lines ≡ length (flat_map line_text lines)
room-lines [] = refl
room-lines (line ∷ lines) = grind (arith, length-append, room-lines lines)

pub room-lines_of : (t : List ℕ) → room line_size (lines_of t) ≡ length t
room-lines_of t = room-lines (lines_of t) ∙ ap length ((LinesOf-lines_of t).joined)

module _ (part : WithStart (List ℕ)) where
  -- the first line is before the first LF
  pub line_spans_first : (cut : Cursor × Cursor) (first : WithStart Line)
      → IsSplitAtFirst 10 part cut
      → first ≡ record { start = cut.0.start; item = terminated_line (text_of cut.0.view) }
      → line_spans part ≡ first ∷ line_spans (part_in cut.1)
  line_spans_first cut first is first_is =
      grind (arith, length-append, line_text-ended, lines_of-split_at_first)

  -- a text without LF is one line, or none if it is empty
  pub line_spans_open : (cursor : Cursor) (only : WithStart Line) → HasNo 10 part.item
      → part.item ≢ [] → text_of cursor.view ≡ []
      → only ≡ record { start = part.start; item = record { body = part.item; ending = Absent } }
      → line_spans part ≡ only ∷ line_spans (part_in cursor)
  line_spans_open cursor only free some none only_is = grind (arith, lines_of-open)

  -- a text that is not empty has a line
  pub line_spans_some : part.item ≢ [] → line_spans part ≢ []
  line_spans_some some none = lines_of-some part.item some
      (sym (items-with_starts line_size part.start (lines_of part.item)) ∙ ap items_of none)

  -- the last line comes after whole lines
  line_spans_behind : (cut : Cursor × Cursor) (line : Line) → cut.0.start ≡ part.start
      → cut.1.start ≡ part.start + length (text_of cut.0.view)
      → lines_of part.item ≡ lines_of (text_of cut.0.view) ++ line ∷ []
      → line_spans part ≡ line_spans (part_in cut.0) ++ record
      { start = cut.1.start; item = line } ∷ []
  line_spans_behind cut line before behind is = grind (arith, room-lines_of, with_starts-last)

  -- the last line of a text that ends in LF, which is cut in front of that
  pub line_spans_last_ended : (front : Cursor) (cut : Cursor × Cursor) (last : WithStart Line)
      → part.item ≡ text_of front.view ++ 10 ∷ [] → front.start ≡ part.start
      → IsSplitAfterLast 10 (part_in front) cut
      → last ≡ record { start = cut.1.start; item = terminated_line (text_of cut.1.view) }
      → line_spans part ≡ line_spans (part_in cut.0) ++ last ∷ []
  line_spans_last_ended front cut last ends starts is last_is = rw last_is
      (grind (arith, line_spans_behind, lines_of-last_ended))

  -- the last line of a text that does not
  pub line_spans_last_open : (front : List ℕ) (code : ℕ) (cut : Cursor × Cursor)
      (last : WithStart Line) → part.item ≡ front ++ code ∷ [] → code ≢ 10
      → IsSplitAfterLast 10 part cut
      → last ≡ record {
        start = cut.1.start;
        item =
            record { body = text_of cut.1.view; ending = Absent };
      }
      → line_spans part ≡ line_spans (part_in cut.0) ++ last ∷ []
  line_spans_last_open front code cut last ends other is last_is =
      grind (arith, not_whole, append-nil, line_spans_behind, lines_of-last_open)

  -- the lines found are in the relation, and no others are
  pub line_spans_found : LineSpansOf part.start part.item (line_spans part)
  line_spans_found =
      let alone = sym (items-with_starts line_size part.start (lines_of part.item)) in
      grind (arith, LinesOf-lines_of part.item)

  pub line_spans_only : (spans : List (WithStart Line)) → LineSpansOf part.start part.item spans
      → spans ≡ line_spans part
  line_spans_only spans held = grind (arith, LinesOf-only)

  -- there is at most one more than the codes of the text
  pub line_spans_fit : length (line_spans part) ≤ length part.item + 1
  line_spans_fit = grind (arith, length-with_starts, length-lines_of)

-- ---- two lists of one text are one

pub same_pieces : (t : List ℕ) (on : ℕ) (pieces others : List (List ℕ)) → Pieces t on pieces
    → Pieces t on others → others ≡ pieces
same_pieces t on pieces others one two =
    Pieces-only t on others two ∙ sym (Pieces-only t on pieces one)

pub same_lines : (t : List ℕ) (lines others : List Line) → LinesOf t lines → LinesOf t others
    → others ≡ lines
same_lines t lines others one two = LinesOf-only t others two ∙ sym (LinesOf-only t lines one)

-- items are some where their spans are
pub items_some : {A : Type 0} (spans : List (WithStart A)) → spans ≢ [] → items_of spans ≢ []
items_some [] some = λ none. absurd (some refl)
items_some (span ∷ spans) some = λ none. cc

pub with_starts-some : {A : Type 0} (size : A → ℕ) (start : ℕ) (items : List A) → items ≢ []
    → with_starts size start items ≢ []
with_starts-some size start [] some = λ none. absurd (some refl)
with_starts-some size start (item ∷ items) some = λ none. cc
