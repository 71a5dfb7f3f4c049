-- How the pieces that a separator ends break at either end.
use Rattle.std.proofs.Common.{◌≡◌, ◌≢◌, ℕ, ◌+◌, ◌-◌, ◌≤◌, List, [], ◌∷◌, ◌++◌, length, map, take}
use Rattle.std.proofs.Common.{refl, sym, ap, ◌∙◌, subst, arith, inl, inr, append_assoc, append-nil}
use Rattle.std.proofs.Common.{length-append, drop, eqb, eqb-true, false, take_at}
use Rattle.std.proofs.Math.Seq.{drop-append_seam}
use Rattle.std.proofs.lemmas.Bool.{cases_Bool}
use Rattle.std.proofs.lemmas.List.{length-map, length_push, same_from_push}
use Rattle.std.proofs.lemmas.List.Elements.{All-push}
use Rattle.std.specs.List.{join_with_byte}
use Rattle.ascii.specs.Ended.{EndsAtMost, inclusive_spans, some_piece, some_span}
use Rattle.ascii.specs.Ended.{spans_with_last, with_last}
use Rattle.ascii.specs.Found.{HasNo, IsEndedBy, IsSplitAfterLast, IsSplitAtFirst, part_in}
use Rattle.ascii.specs.Found.{piece_spans, pieces_of}
use Rattle.ascii.specs.Spans.{WithStart, items_of, piece_size, with_starts}
use Rattle.ascii.specs.declared.iter.cursor.Cursor.{Cursor}
use Rattle.ascii.specs.View.{text_of}
use Rattle.ascii.proofs.ByClassLemmas.{pieces_joint, pieces_none}
use Rattle.ascii_base.proofs.ListLemmas.{append-some}
use Rattle.ascii.proofs.PiecesLemmas.{Pieces-pieces_of, absent-from_Free, is_on, length-pieces_of, slice_split-some}
use Rattle.ascii.proofs.SpansLemmas.{items-with_starts, length-with_starts}

-- ---- lists whose last item is treated apart

with_last-append : {A B : Type 0} (each : A → B) (last : A → List B) (xs ys : List A) → ys ≢ []
    → with_last each last (xs ++ ys) ≡ map each xs ++ with_last each last ys
with_last-append each last [] ys some = refl
with_last-append each last (x ∷ []) [] some = absurd (some refl)
with_last-append each last (x ∷ []) (y ∷ ys) some = refl
with_last-append each last (x ∷ next ∷ xs) ys some =
    ap (λ others. each x ∷ others) (with_last-append each last (next ∷ xs) ys some)

-- ---- with starts

module _ (each : List ℕ → List ℕ) (on : ℕ) where
  -- what becomes of a piece that a separator ends
  abbrev pub each_span : WithStart (List ℕ) → WithStart (List ℕ)
  each_span span = record { start = span.start; item = each span.item }

  -- the items from `start`
  abbrev pub items_from : ℕ → List ℕ → List (WithStart (List ℕ))
  items_from start text = spans_with_last each on (record { start = start; item = text })

  pieces_some : (start : ℕ) (text : List ℕ)
      → piece_spans on (record { start = start; item = text }) ≢ []
  pieces_some start text none = grind (arith, slice_split-some, length-with_starts, go, same_none)
    where
      same_none : {n : ℕ} → length (with_starts piece_size start (pieces_of on text)) ≡ n
          → length (with_starts piece_size start (pieces_of on text)) ≡ 0 → n ≡ 0
      same_none same zero_is = sym same ∙ zero_is

      go : (ps : List (List ℕ)) → length ps ≡ 0 → ps ≡ []
      go [] zero_is = refl
      go (p ∷ ps) zero_is = absurd (omega (arith, zero_is))

  -- the items around a separator are those before it, ended, and then those after it
  items_joint : (start : ℕ) (a b : List ℕ) → items_from start (a ++ on ∷ b)
      ≡ map each_span (piece_spans on (record { start = start; item = a }))
      ++ items_from (start + (length a + 1)) b
  items_joint start a b = grind (arith, pieces_joint, is_on, with_last-append, pieces_some)

  -- a text that ends in the separator
  items_ended : (start : ℕ) (a : List ℕ) → items_from start (a ++ on ∷ [])
      ≡ map each_span (piece_spans on (record { start = start; item = a }))
  items_ended start a = items_joint start a [] ∙ append-nil _

  -- one item, which a separator ends
  pub items_one : (start : ℕ) (a b : List ℕ) → HasNo on a → items_from start (a ++ on ∷ b)
      ≡ record { start = start; item = each a } ∷ items_from (start + (length a + 1)) b
  items_one start a b free = grind (arith, items_joint, pieces_none, eqb)

  -- one item, which no separator ends
  pub items_open : (start : ℕ) (t : List ℕ) → HasNo on t → t ≢ []
      → items_from start t ≡ record { start = start; item = t } ∷ []
  items_open start t free some = grind (arith, pieces_none, eqb)

  -- the items after a front that is empty or ends in the separator
  items_behind : (start : ℕ) (a b : List ℕ) → IsEndedBy on a
      → items_from start (a ++ b) ≡ items_from start a ++ items_from (start + length a) b
  items_behind start a b is = grind (arith, length-append, append_assoc, items_ended, items_joint)

  module _ (part : WithStart (List ℕ)) where
    pub ended_none : part.item ≡ [] → spans_with_last each on part ≡ []
    ended_none none = rw none

    pub ended_first : (byte : ℕ) (cut : Cursor × Cursor) (first : WithStart (List ℕ)) → byte ≡ on
        → IsSplitAtFirst byte part cut
        → first ≡ record { start = part.start; item = each (text_of cut.0.view) }
        → spans_with_last each on part ≡ first ∷ spans_with_last each on (part_in cut.1)
    ended_first byte cut first byte_is found first_is = grind (arith, items_one)

    pub ended_open : (byte : ℕ) (only : WithStart (List ℕ)) → byte ≡ on → HasNo byte part.item
        → part.item ≢ [] → only ≡ part → spans_with_last each on part ≡ only ∷ []
    ended_open byte only byte_is free some only_is = grind (arith, items_open)

    -- the last item of a text that ends in the separator
    pub ended_last : (byte : ℕ) (front : Cursor) (cut : Cursor × Cursor) (last : WithStart (List ℕ))
        → byte ≡ on → part.item ≡ text_of front.view ++ byte ∷ [] → front.start ≡ part.start
        → IsSplitAfterLast byte (part_in front) cut
        → last ≡ record { start = cut.1.start; item = each (text_of cut.1.view) }
        → spans_with_last each on part ≡ spans_with_last each on (part_in cut.0) ++ last ∷ []
    ended_last byte front cut last byte_is ends starts found last_is =
        let is = subst (λ b. IsSplitAfterLast b (part_in front) cut) byte_is found in
        let a = text_of cut.0.view in
        let b = text_of cut.1.view in
        rw (last_is, is.before, is.behind, starts) (ap (items_from part.start) (ends
        ∙ (ap (λ c. text_of front.view ++ c ∷ []) byte_is
        ∙ (ap (λ xs. xs ++ on ∷ []) is.text ∙ append_assoc a b (on ∷ []))))
        ∙ (items_behind part.start a (b ++ on ∷ []) is.whole
        ∙ ap (λ xs. items_from part.start a ++ xs) (items_one (part.start + length a) b [] is.free)))

    -- the last item of a text that does not
    pub open_last : (byte : ℕ) (cut : Cursor × Cursor) (last : WithStart (List ℕ)) → byte ≡ on
        → IsSplitAfterLast byte part cut → text_of cut.1.view ≢ []
        → last ≡ part_in cut.1
        → spans_with_last each on part ≡ spans_with_last each on (part_in cut.0) ++ last ∷ []
    open_last byte cut last byte_is found some last_is = grind (arith, items_behind, items_open)

-- what follows the last separator is not empty if the text ends in another code
pub last_some : (part : WithStart (List ℕ)) (byte : ℕ) (cut : Cursor × Cursor) (front : List ℕ) (c : ℕ)
    → part.item ≡ front ++ c ∷ [] → c ≢ byte → IsSplitAfterLast byte part cut
    → text_of cut.1.view ≢ []
last_some part byte cut front c ends other found none =
    grind (arith, append-nil, append-some, same_from_push)

-- ---- items with the separator that ends them

-- an item that ends in any one code
pub ends_at_most : (on c : ℕ) (piece : List ℕ) → HasNo on piece → EndsAtMost on (piece ++ c ∷ [])
ends_at_most on c piece free = grind (arith, length_push, append-some, take_at, absent-from_Free)

-- the text up to and with the first separator
pub through_first : (on byte : ℕ) (part : WithStart (List ℕ)) (cut : Cursor × Cursor) → byte ≡ on
    → IsSplitAtFirst byte part cut
    → take (length (text_of cut.0.view) + 1) part.item ≡ text_of cut.0.view ++ on ∷ []
through_first on byte part cut byte_is found =
    let a = text_of cut.0.view in
    let b = text_of cut.1.view in
    let split : part.item ≡ (a ++ byte ∷ []) ++ b = found.0.text ∙ sym (append_assoc a (byte ∷ []) b) in
    grind (arith, take_at, length_push)

module _ (on : ℕ) (part : WithStart (List ℕ)) (byte c : ℕ) (front : Cursor) (cut : Cursor × Cursor)
  where
    -- what follows the last separator before the last code
    pub from_last : part.item ≡ text_of front.view ++ c ∷ [] → IsSplitAfterLast byte (part_in front) cut
        → drop (length (text_of cut.0.view)) part.item ≡ text_of cut.1.view ++ c ∷ []
    from_last ends found = grind (arith, append_assoc, drop-append_seam)

    -- the last item of a text that is not empty
    pub inclusive_last : (last : WithStart (List ℕ)) → byte ≡ on
        → part.item ≡ text_of front.view ++ c ∷ [] → front.start ≡ part.start
        → IsSplitAfterLast byte (part_in front) cut
        → last ≡ record {
          start = part.start + length (text_of cut.0.view);
          item = text_of cut.1.view ++ c ∷ [];
        }
        → inclusive_spans on part ≡ inclusive_spans on (part_in cut.0) ++ last ∷ []
    inclusive_last last byte_is ends starts found last_is =
        let is = subst (λ b. IsSplitAfterLast b (part_in front) cut) byte_is found in
        let each : List ℕ → List ℕ = λ piece. piece ++ on ∷ [] in
        let a = text_of cut.0.view in
        let b = text_of cut.1.view in
        let at = part.start + length a in
        let one : items_from each on at (b ++ c ∷ [])
        ≡ record { start = at; item = b ++ c ∷ [] } ∷ [] = elim (cases_Bool (eqb c on)) [
          | inl same ↦ grind (arith, eqb-true, items_one)
          | inr other ↦ items_open each on at (b ++ c ∷ [])
              (All-push (λ code. eqb code on ≡ false) b c is.free other)
              (append-some b (c ∷ []) (λ none. cc))
        ] in
        grind (arith, append_assoc, items_behind, one)

-- ---- how many there are, and the items without their starts

some_span-item : (span : WithStart (List ℕ)) → items_of (some_span span) ≡ some_piece span.item
some_span-item span = grind arith

module _ (each : List ℕ → List ℕ) where
  with_last-items : (spans : List (WithStart (List ℕ)))
      → items_of (with_last (each_span each 0) some_span spans)
      ≡ with_last each some_piece (items_of spans)
  with_last-items [] = refl
  with_last-items (span ∷ []) = some_span-item span
  with_last-items (span ∷ next ∷ spans) = grind (arith, with_last-items (next ∷ spans))

  pub items_of_ended : (on start : ℕ) (t : List ℕ)
      → items_of (spans_with_last each on (record { start = start; item = t }))
      ≡ with_last each some_piece (pieces_of on t)
  items_of_ended on start t = grind (arith, with_last-items, items-with_starts)

  some_piece-count : (piece : List ℕ) → length (some_piece piece) ≤ 1
  some_piece-count piece = grind arith

  with_last-count : (pieces : List (List ℕ))
      → length (with_last each some_piece pieces) ≤ length pieces
  with_last-count [] = omega arith
  with_last-count (piece ∷ []) = some_piece-count piece
  with_last-count (piece ∷ next ∷ pieces) = omega (arith, with_last-count (next ∷ pieces))

  pub ended_fit : (on : ℕ) (t : List ℕ)
      → length (with_last each some_piece (pieces_of on t)) ≤ length t + 1
  ended_fit on t = omega (arith, with_last-count (pieces_of on t), length-pieces_of on t)

  pub ended_spans_fit : (on start : ℕ) (t : List ℕ)
      → length (spans_with_last each on (record { start = start; item = t })) ≤ length t + 1
  ended_spans_fit on start t = grind (arith, length-map, items_of_ended on start t, ended_fit on t)

  -- a part with no items is empty
  with_last-none : (on : ℕ) (pieces : List (List ℕ)) → with_last each some_piece pieces ≡ []
      → join_with_byte on pieces ≡ []
  with_last-none on [] none = refl
  with_last-none on pieces none = grind arith

  pub ended_empty : (on : ℕ) (part : WithStart (List ℕ)) → spans_with_last each on part ≡ []
      → part.item ≡ []
  ended_empty on part none = grind (arith, Pieces-pieces_of, with_last-none, items_of_ended)
