-- The parts that a search by memchr cuts a text into.
use Rattle.std.proofs.Common.{Bool, ℕ, ◌≡◌, ◌+◌, ◌-◌, ◌<◌, ◌≤◌, ◌==◌, false, List, ◌∷◌, ◌++◌}
use Rattle.std.proofs.Common.{length, take, drop, None, Some, arith, inl, inr, eqb-true}
use Rattle.std.proofs.Common.{length-drop}
use Rattle.std.proofs.lemmas.Bool.{cases_lt, false_from_ne_true}
use Rattle.std.proofs.lemmas.List.{get_or-drop, get_or-take, length-take-le, take_all, drop_more}
use Rattle.std.proofs.lemmas.Grind.{common_steps}
use Rattle.std.proofs.lemmas.List.Elements.{All-from_get_or}
use Rattle.memchr.specs.Find.{IsFirstByte, IsLastByte, Nowhere, Passes, is_byte}
use Rattle.ascii.specs.Found.{HasNo, IsEndedBy}

module _ (on : ℕ) (codes : List ℕ) where
  pub free_of_last : IsLastByte (is_byte on) codes None → HasNo on codes
  free_of_last h = All-from_get_or (λ code. (code == on) ≡ false) codes 0
      (λ k inside. false_from_ne_true _ (h k (omega arith) inside))

  -- the text around the last one, which does not occur after it
  pub cut_at_last : (place : ℕ) → IsLastByte (is_byte on) codes (Some place)
      → (codes ≡ take place codes ++ on ∷ drop (place + 1) codes)
      × HasNo on (drop (place + 1) codes)
  cut_at_last place h = (
    grind (arith, eqb-true, common_steps, drop_more),
    All-from_get_or (λ code. (code == on) ≡ false) (drop (place + 1) codes) 0 (λ k inside.
        rw get_or-drop (grind (arith, false_from_ne_true, length-drop))),
  )

-- the text up to and with an `on` ends in it
pub ended_at : (on : ℕ) (codes : List ℕ) (place : ℕ) → place < length codes
    → Passes (is_byte on) codes place → IsEndedBy on (take (place + 1) codes)
ended_at on codes place inside here = grind (arith, eqb-true, common_steps)

-- a search of the first n codes, and then of those after them, is a search of all of them
module _ (test : ℕ → Bool) (codes : List ℕ) (n : ℕ) (room : n ≤ length codes) where
  pub first_near : (place : ℕ) → IsFirstByte test (take n codes) (Some place)
      → IsFirstByte test codes (Some place)
  first_near place near = grind (arith, length-take-le, get_or-take)

  not_near : IsFirstByte test (take n codes) None → Nowhere (Passes test codes) 0 n
  not_near none k low high here = grind (arith, length-take-le, get_or-take)

  -- nor is there one before a smaller place
  pub none_nearer : (m : ℕ) → m ≤ n → IsFirstByte test (take n codes) None
      → IsFirstByte test (take m codes) None
  none_nearer m below none k low high here = grind (arith, length-take-le, not_near, get_or-take)

  far_at : (k : ℕ) → n ≤ k → Passes test codes k → Passes test (drop n codes) (k - n)
  far_at k past here = grind (arith, get_or-drop)

  nowhere_before : (end : ℕ) → end ≤ length codes → IsFirstByte test (take n codes) None
      → Nowhere (Passes test (drop n codes)) 0 (end - n) → Nowhere (Passes test codes) 0 end
  nowhere_before end inside near far k low high here = elim (cases_lt k n) [
    | inl below ↦ not_near near k low below here
    | inr past ↦ far (k - n) (omega arith) (omega arith) (far_at k past here)
  ]

  far_part : take (length codes - n) (drop n codes) ≡ drop n codes
  far_part = take_all _ _ (omega (arith, length-drop n codes))

  pub first_far : (place : ℕ) → IsFirstByte test (take n codes) None
      → IsFirstByte test (take (length codes - n) (drop n codes)) (Some place)
      → IsFirstByte test codes (Some (n + place))
  first_far place near cut =
      let far = rw far_part at cut in
      let inside : n + place < length codes = grind (arith, length-drop) in (
        record {
          low = omega arith;
          high = inside;
          before = nowhere_before (n + place) (omega arith) near
              (λ k low high. far.0.before k low (omega arith));
        },
        rw (get_or-drop n codes place 0) at far.1,
      )

  pub none_far : IsFirstByte test (take n codes) None
      → IsFirstByte test (take (length codes - n) (drop n codes)) None
      → IsFirstByte test codes None
  none_far near cut =
      let far = rw far_part at cut in
      nowhere_before (length codes) (omega arith) near
      (λ k low high. far k low (omega (arith, length-drop n codes)))
