-- How the pieces of a text at another text break at the front.
use Rattle.std.proofs.Common.{◌≡◌, ◌≢◌, ℕ, zero, suc, ◌+◌, ◌<◌, ◌≤◌, false, List, [], ◌∷◌, length}
use Rattle.std.proofs.Common.{take, drop, refl, ap, ◌∙◌, arith, inl, inr, None, Some}
use Rattle.std.specs.List.{onto_first}
use Rattle.std.proofs.lemmas.Bool.{cases_Bool, cond_both, cond-true, cond-false}
use Rattle.std.proofs.lemmas.List.{get_or-take, length-take-le}
use Rattle.memchr.specs.Find.{FindsNeedle, OccursAt, occurs_at}
use Rattle.memchr.proofs.lemmas.MatchLemmas.{OccursAt-from_part, OccursAt-part, OccursAt-true}
use Rattle.memchr.proofs.lemmas.MatchLemmas.{occurs_at-true}
use Rattle.ascii.specs.ByText.{IsFreeOf, match_spans_at, match_spans_between, matches_at}
use Rattle.ascii.specs.ByText.{matches_between, piece_spans_at, pieces_after, pieces_at}
use Rattle.ascii.specs.Spans.{WithStart, after_piece, items_of, with_starts}
use Rattle.ascii.proofs.SpansLemmas.{items-with_starts, length-with_starts}

module _ (c : ℕ) (t needle : List ℕ) (k : ℕ) where
  pub later : OccursAt (c ∷ t) needle (suc k) → OccursAt t needle k
  later occurs = grind (arith, OccursAt-from_part, OccursAt-part)

  pub sooner : OccursAt t needle k → OccursAt (c ∷ t) needle (suc k)
  sooner occurs = grind (arith, OccursAt-from_part, OccursAt-part)

module _ (first : ℕ) (others : List ℕ) where
  abbrev needle : List ℕ
  needle = first ∷ others

  after_skip : (skip : ℕ) (t : List ℕ)
      → pieces_after first others skip t ≡ pieces_after first others 0 (drop skip t)
  after_skip zero t = refl
  after_skip (suc skip) [] = refl
  after_skip (suc skip) (c ∷ t) = after_skip skip t

  not_here : (t : List ℕ) → ¬ (OccursAt t needle 0) → occurs_at t needle 0 ≡ false
  not_here t nowhere = elim (cases_Bool (occurs_at t needle 0)) [
    | inl is ↦ absurd (nowhere (OccursAt-true t needle 0 is))
    | inr out ↦ out
  ]

  -- the first piece is before the first occurrence
  pub pieces_found : (t : List ℕ) (k : ℕ) → OccursAt t needle k
      → ((j : ℕ) → j < k → ¬ (OccursAt t needle j))
      → pieces_after first others 0 t
      ≡ take k t ∷ pieces_after first others 0 (drop (k + length needle) t)
  pieces_found [] k occurs none = absurd (let fits = occurs.fits in omega (arith, fits))
  pieces_found (c ∷ t) zero occurs none =
      let after : suc (length others) ≡ 0 + length needle = omega arith in
      cond-true _ _ _ (occurs_at-true (c ∷ t) needle 0 occurs) ∙ (grind (arith, after_skip))
  pieces_found (c ∷ t) (suc k) occurs none =
      let after : suc (k + length needle) ≡ suc k + length needle = omega arith in
      cond-false _ _ _ (not_here (c ∷ t) (none 0 (omega arith)))
      ∙ (ap (onto_first c) (pieces_found t k (later c t needle k occurs)
      (λ j below also. none (suc j) (omega arith) (sooner c t needle j also)))
      ∙ ap (λ n. (c ∷ take k t) ∷ pieces_after first others 0 (drop n (c ∷ t))) after)

  -- a text in which it does not occur is its one piece
  pub pieces_absent : (t : List ℕ) → ((j : ℕ) → ¬ (OccursAt t needle j))
      → pieces_after first others 0 t ≡ t ∷ []
  pieces_absent [] none = refl
  pieces_absent (c ∷ t) none = cond-false _ _ _ (not_here (c ∷ t) (none 0))
      ∙ ap (onto_first c) (pieces_absent t (λ j also. none (suc j) (sooner c t needle j also)))

  pub pieces_many : (skip : ℕ) (t : List ℕ) → (0 < length (pieces_after first others skip t))
      × (length (pieces_after first others skip t) ≤ length t + 1)
  pieces_many skip [] = (omega arith, omega arith)
  pieces_many (suc skip) (c ∷ t) = grind (arith, pieces_many skip t)
  pieces_many zero (c ∷ t) =
      grind (arith, cond_both, pieces_many (length others) t, pieces_many zero t)

pub piece_spans_at_fit : (start : ℕ) (needle t : List ℕ)
    → length (piece_spans_at needle (record { start = start; item = t })) ≤ length t + 1
piece_spans_at_fit start needle t = grind (arith, length-with_starts, pieces_many)

-- found nowhere
nowhere : (t needle : List ℕ) → FindsNeedle t needle 0 None → (j : ℕ) → ¬ (OccursAt t needle j)
nowhere t needle finds j occurs = let fits = occurs.fits in
    finds j (omega arith) (omega (arith, fits)) occurs

module _ (start : ℕ) (t needle : List ℕ) where
  pub piece_spans_at_first : (k : ℕ) → needle ≢ [] → FindsNeedle t needle 0 (Some k)
      → piece_spans_at needle (record { start = start; item = t })
      ≡ record { start = start; item = take k t }
      ∷ piece_spans_at needle
      (record { start = start + (k + length needle); item = drop (k + length needle) t })
  piece_spans_at_first k some finds = go needle some finds
    where
      go : (needle : List ℕ) → needle ≢ [] → FindsNeedle t needle 0 (Some k)
          → piece_spans_at needle (record { start = start; item = t })
          ≡ record { start = start; item = take k t }
          ∷ piece_spans_at needle
          (record { start = start + (k + length needle); item = drop (k + length needle) t })
      go [] some finds = absurd (some refl)
      go (n ∷ ns) some finds =
          let fits = finds.1.fits in
          let size : length (take k t) ≡ k = length-take-le k t (omega (arith, fits)) in
          ap (with_starts (after_piece (length (n ∷ ns))) start)
          (pieces_found n ns t k finds.1 (λ j below. finds.0.before j (omega arith) below))
          ∙ ap (λ m. record { start = start; item = take k t }
          ∷ with_starts (after_piece (length (n ∷ ns))) (start + (m + length (n ∷ ns)))
          (pieces_after n ns 0 (drop (k + length (n ∷ ns)) t))) size

  pub piece_spans_at_none : FindsNeedle t needle 0 None
      → piece_spans_at needle (record { start = start; item = t })
      ≡ record { start = start; item = t } ∷ []
  piece_spans_at_none finds = go needle finds
    where
      go : (needle : List ℕ) → FindsNeedle t needle 0 None
          → piece_spans_at needle (record { start = start; item = t })
          ≡ record { start = start; item = t } ∷ []
      go [] finds = refl
      go (n ∷ ns) finds = ap (with_starts (after_piece (length (n ∷ ns))) start)
          (pieces_absent n ns t (nowhere t (n ∷ ns) finds))

  pub free_before : (k : ℕ) → FindsNeedle t needle 0 (Some k) → IsFreeOf needle (take k t)
  free_before k finds some j occurs =
      let fits = finds.1.fits in
      let inside = occurs.fits in
      let size : length (take k t) ≡ k = length-take-le k t (omega (arith, fits)) in
      let long : 0 < length needle = some_long needle some in
      finds.0.before j (omega arith) (omega (arith, inside, size, long)) (record {
        fits = omega (arith, inside, size, fits);
        reads = grind (arith, get_or-take);
      })
    where
      some_long : (xs : List ℕ) → xs ≢ [] → 0 < length xs
      some_long [] some = absurd (some refl)
      some_long (x ∷ xs) some = omega arith

  pub free_nowhere : FindsNeedle t needle 0 None → IsFreeOf needle t
  free_nowhere finds some = nowhere t needle finds

-- ---- the occurrences: one between each two pieces

-- there is at least one piece
pub piece_spans_at_some : (start : ℕ) (needle t : List ℕ)
    → 0 < length (piece_spans_at needle (record { start = start; item = t }))
piece_spans_at_some start needle t = grind (arith, length-with_starts, pieces_many)

-- the first of them comes after the first piece
between_first : (needle : List ℕ) (piece : WithStart (List ℕ)) (pieces : List (WithStart (List ℕ)))
    → 0 < length pieces → match_spans_between needle (piece ∷ pieces)
    ≡ record { start = piece.start + length piece.item; item = needle }
    ∷ match_spans_between needle pieces
between_first needle piece pieces some = grind arith

between_items : (n : List ℕ) (pieces : List (WithStart (List ℕ)))
    → items_of (match_spans_between n pieces) ≡ matches_between n (items_of pieces)
between_items n [] = refl
between_items n (piece ∷ []) = refl
between_items n (piece ∷ next ∷ pieces) = grind (arith, between_items n (next ∷ pieces))

between_count : (needle : List ℕ) (pieces : List (WithStart (List ℕ)))
    → length (match_spans_between needle pieces) ≤ length pieces
between_count needle [] = omega arith
between_count needle (piece ∷ []) = omega arith
between_count needle (piece ∷ next ∷ pieces) = omega (arith, between_count needle (next ∷ pieces))

module _ (start : ℕ) (needle t : List ℕ) where
  pub matches_of_spans :
      items_of (match_spans_at needle (record { start = start; item = t })) ≡ matches_at needle t
  matches_of_spans = grind (arith, between_items, items-with_starts)

  pub match_spans_fit :
      length (match_spans_at needle (record { start = start; item = t })) ≤ length t + 1
  match_spans_fit = grind (arith, between_count, piece_spans_at_fit)

  pub pieces_of_spans_at :
      items_of (piece_spans_at needle (record { start = start; item = t })) ≡ pieces_at needle t
  pieces_of_spans_at = items-with_starts (after_piece (length needle)) start (pieces_at needle t)

  pub match_spans_at_first : (k : ℕ) → needle ≢ [] → FindsNeedle t needle 0 (Some k)
      → match_spans_at needle (record { start = start; item = t })
      ≡ record { start = start + k; item = needle } ∷ match_spans_at needle
      (record { start = start + (k + length needle); item = drop (k + length needle) t })
  match_spans_at_first k some finds =
      grind (arith, length-take-le, piece_spans_at_first, between_first, piece_spans_at_some)

  pub match_spans_at_none : FindsNeedle t needle 0 None
      → match_spans_at needle (record { start = start; item = t }) ≡ []
  match_spans_at_none finds = grind (arith, piece_spans_at_none)
