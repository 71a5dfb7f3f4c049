-- At most `n` pieces of a text, of which the n-th holds the rest.
use Rattle.std.proofs.Common.{◌≡◌, ◌<◌, ℕ, zero, suc, List, [], ◌∷◌, take, refl, sym, ap, ◌∙◌}
use Rattle.std.proofs.Common.{arith, Option, None, Some}
use native.Mathlib.Numerals.{unary_clauses}
use Rattle.std.specs.List.{Contains, join_with_byte}
use Rattle.std.proofs.Math.Seq.{take-nil}
use Rattle.std.proofs.lemmas.List.Elements.{All-cons, All-head, All-nil, All-tail}
use Rattle.ascii.specs.Found.{pieces_of, pieces_up_to}
use Rattle.ascii.specs.Cuts.{IsRemainder}
use Rattle.ascii.specs.TheCuts.{at_code}
use Rattle.ascii.specs.Pieces.{IsRemainderUpTo, IteratesPiecesUpTo, Pieces, PiecesUpTo, Remaining}
use Rattle.ascii.specs.Steps.{KeepsOn, YieldsFirstAnd}
use Rattle.ascii.specs.Parts.{WithStart}
use Rattle.ascii.specs.View.{text_of}
use Rattle.ascii.specs.declared.ascii_str.AsciiStr.{AsciiStr}
use Rattle.ascii.proofs.PiecesLemmas.{HasNo-from_absent, pieces_of-free, pieces_of-split_at_first}
use Rattle.ascii.proofs.PiecesLemmas.{Pieces-only, Pieces-pieces_of}

module _ (on : ℕ) where
  pub up_to-zero : (pieces : List (List ℕ)) → pieces_up_to on 0 pieces ≡ []
  up_to-zero [] = refl
  up_to-zero (piece ∷ pieces) = refl

  -- the only piece is the text
  pub up_to-one : (text : List ℕ) (pieces : List (List ℕ)) → Pieces text on pieces
      → pieces_up_to on 1 pieces ≡ text ∷ []
  up_to-one text [] whole = absurd (whole.some refl)
  up_to-one text (piece ∷ pieces) whole = ap (λ t. t ∷ []) whole.joined

  -- the pieces found are in the relation
  pub up_to_found : (n : ℕ) (text : List ℕ) (pieces : List (List ℕ)) → Pieces text on pieces
      → PiecesUpTo n text on (pieces_up_to on n pieces)
  up_to_found n text [] whole = absurd (whole.some refl)
  up_to_found zero text (piece ∷ pieces) whole = grind (arith, All-nil)
  up_to_found (suc zero) text (piece ∷ pieces) whole = grind (arith, All-nil)
  up_to_found (suc (suc n)) text (piece ∷ []) whole = record {
    count = omega arith;
    free = simp unary_clauses (All-cons (λ (p : List ℕ). ¬ (Contains p on)) piece (take n [])
        (whole.free 0 [] (omega arith)) (simp take-nil (All-nil _)));
    some = λ more none. cc;
    joined = λ more. whole.joined;
  }
  up_to_found (suc (suc n)) text (piece ∷ next ∷ others) whole =
      let rest = next ∷ others in
      let Free = λ (p : List ℕ). ¬ (Contains p on) in
      let after = up_to_found (suc n) (join_with_byte on rest) rest
      (record { some = λ none. cc; free = All-tail Free piece rest whole.free; joined = refl }) in
      record {
        count = omega (arith, after.count);
        free = simp unary_clauses (All-cons Free piece (take n (pieces_up_to on (suc n) rest))
            (All-head Free piece rest whole.free) (simp unary_clauses at after.free));
        some = λ more none. cc;
        joined = grind arith;
      }

  -- no other list is in the relation
  pub up_to_only : (n : ℕ) (text : List ℕ) (pieces : List (List ℕ))
      → PiecesUpTo n text on pieces → pieces ≡ pieces_up_to on n (pieces_of on text)
  up_to_only zero text [] held = sym (up_to-zero (pieces_of on text))
  up_to_only zero text (piece ∷ pieces) held = absurd (omega (arith, held.count))
  up_to_only (suc n) text [] held = absurd (held.some (omega arith) refl)
  up_to_only (suc zero) text (piece ∷ []) held =
      sym (up_to-one text (pieces_of on text) (Pieces-pieces_of text on)
      ∙ ap (λ t. t ∷ []) (sym (held.joined (omega arith))))
  up_to_only (suc zero) text (piece ∷ next ∷ others) held = absurd (omega (arith, held.count))
  up_to_only (suc (suc n)) text (piece ∷ []) held =
      let Free = λ (p : List ℕ). ¬ (Contains p on) in
      let free = HasNo-from_absent on piece
      (All-head Free piece (take n []) (simp unary_clauses at held.free)) in
      grind (arith, pieces_of-free)
  up_to_only (suc (suc n)) text (piece ∷ next ∷ others) held =
      let Free = λ (p : List ℕ). ¬ (Contains p on) in
      let rest = next ∷ others in
      let after = join_with_byte on rest in
      let all_free = simp unary_clauses at held.free in
      let free = HasNo-from_absent on piece (All-head Free piece (take n rest) all_free) in
      let others_up_to = up_to_only (suc n) after rest (record {
        count = omega (arith, held.count);
        free = simp unary_clauses (All-tail Free piece (take n rest) all_free);
        some = λ more none. cc;
        joined = λ more. refl;
      }) in
      grind (arith, pieces_of-split_at_first)

  -- the pieces found are the only list in the relation
  pub up_to_iterates : (n : ℕ) (text : List ℕ) (pieces : List (List ℕ)) → Pieces text on pieces
      → IteratesPiecesUpTo n text on (pieces_up_to on n pieces)
  up_to_iterates n text pieces whole = record {
    pieces = up_to_found n text pieces whole;
    only = λ other held. up_to_only n text other held
        ∙ ap (pieces_up_to on n) (sym (Pieces-only text on pieces whole));
  }

  -- what is left of a whole split is what is left of its first pieces
  pub up_to_remainder : (n : ℕ) (pieces : List (List ℕ)) (rest left_rest : Option (WithStart (List ℕ)))
      (result : Option AsciiStr) → 0 < n
      → IsRemainder at_code (record { on = on; items = pieces; rest = rest }) result
      → IsRemainderUpTo (record { on = on; items = pieces_up_to on n pieces; rest = left_rest }) result
  up_to_remainder n pieces rest left_rest None more none = ap (pieces_up_to on n) none
  up_to_remainder n pieces rest left_rest (Some view) more left =
      (n, more, up_to_iterates n (text_of view) pieces left.1)

-- ---- a step of the iterator whose pieces to come are `old`

module _ (on count : ℕ) (pieces : List (List ℕ)) (rest left_rest : Option (WithStart (List ℕ)))
    (old : Remaining ℕ (List ℕ))
    (is : record { on = on; items = pieces_up_to on count pieces; rest = left_rest } ≡ old) where
  -- no pieces are left if no piece may come
  pub up_to_none : count ≡ 0 → old.items ≡ []
  up_to_none none = grind (arith, up_to-zero)

  -- nothing is yielded if no piece may come
  pub up_to_done : count ≡ 0 → YieldsFirstAnd {A = AsciiStr} text_of (λ left. left.items)
      KeepsOn old None old
  up_to_done none = grind (arith, up_to_none)

  -- the rest is yielded if one piece may come
  pub up_to_rest : (result : Option AsciiStr) → count ≡ 1
      → IsRemainder at_code (record { on = on; items = pieces; rest = rest }) result
      → (now : Option (WithStart (List ℕ))) → YieldsFirstAnd text_of (λ left. left.items) KeepsOn old result
      (record { on = on; items = pieces_up_to on 0 pieces; rest = now })
  up_to_rest result one none now = grind (arith, up_to-zero, up_to-one)
