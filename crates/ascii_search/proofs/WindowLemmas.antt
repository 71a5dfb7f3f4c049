-- Where a needle is in a window of a text, and in the text.
use Rattle.std.proofs.Common.{◌≡◌, ◌+◌, ◌-◌, ◌<◌, ◌≤◌, ℕ, List, None, Some, length, arith, drop}
use Rattle.std.proofs.Common.{map, subst}
use Rattle.std.specs.List.{slice_range}
use Rattle.std.proofs.lemmas.List.{drop-map, get_or-drop, get_or-take, length-drop, length-take}
use Rattle.std.proofs.lemmas.List.{take-map}
use Rattle.memchr.specs.Find.{FindsNeedle, NoneBefore, Nowhere, OccursAt}
use Rattle.ascii_search.specs.Masks.{FindsBy, itself}
use Rattle.ascii_search.proofs.MasksLemmas.{nowhere_in_both, same_finds}

-- the image of a window is the window of the image
pub image_of_window : (image : ℕ → ℕ) (hay : List ℕ) (start end : ℕ)
    → map image (slice_range hay start end) ≡ slice_range (map image hay) start end
image_of_window image hay start end = grind (arith, take-map, drop-map)

-- the window from `start` up to `end`, and no needle from `from` up to `start`
module _ (hay needle : List ℕ) (start end : ℕ) (order : start ≤ end) (inside : end ≤ length hay)
    (from : ℕ) (after : from ≤ start) (none : Nowhere (OccursAt hay needle) from start) where
  abbrev window : List ℕ
  window = slice_range hay start end

  size : length window ≡ end - start
  size = omega (arith, length-take (end - start) (drop start hay), length-drop start hay)

  there : (k j : ℕ) → start + k + j ≡ start + (k + j)
  there k j = omega arith

  in_text : (k : ℕ) → OccursAt window needle k → OccursAt hay needle (start + k)
  in_text k occurs = let fits = occurs.fits in grind (arith, size, there, get_or-take, get_or-drop)

  in_window : (k : ℕ) → start + k + length needle ≤ end → OccursAt hay needle (start + k)
      → OccursAt window needle k
  in_window k ends occurs = grind (arith, size, there, get_or-take, get_or-drop)

  nowhere_up_to : (k : ℕ) → Nowhere (OccursAt window needle) 0 k
      → start + k + length needle ≤ end + 1 → Nowhere (OccursAt hay needle) from (start + k)
  nowhere_up_to k not ends = nowhere_in_both _ from start _ none (λ at low high occurs.
      let same : at ≡ start + (at - start) = omega arith in
      not (at - start) (omega arith) (omega arith)
      (in_window (at - start) (omega (arith, ends)) (subst (OccursAt hay needle) same occurs)))

  -- a needle that is nowhere in the window is at no position of the text so that it ends in the window
  pub nowhere_in_window : start + length needle ≤ end
      → Nowhere (OccursAt window needle) 0 (length window + 1)
      → Nowhere (OccursAt hay needle) from (end - length needle + 1)
  nowhere_in_window fits not k low high =
      nowhere_up_to (end - length needle + 1 - start)
      (λ at from to. not at from (omega (arith, size))) (omega (arith, fits)) k low
      (omega (arith, fits))

  -- the first position in the window is the first one in the text
  pub first_in_window : (found : ℕ)
      → NoneBefore (OccursAt window needle) 0 (length window + 1) found
      × OccursAt window needle found
      → NoneBefore (OccursAt hay needle) from (length hay + 1) (start + found)
      × OccursAt hay needle (start + found)
  first_in_window found is = let fits = (in_text found is.1).fits in let ends = is.1.fits in (
    record {
      low = omega arith;
      high = omega (arith, fits);
      before = nowhere_up_to found is.0.before (omega (arith, ends, size));
    },
    in_text found is.1,
  )

-- a needle is searched for among the first bytes of a text, up to `end`, and then from the first
-- position on at which it does not end there
module _ (hay needle : List ℕ) (end : ℕ) (inside : end < length hay) where
  pub found_near : (k : ℕ) → FindsBy itself (slice_range hay 0 end) needle (Some k)
      → FindsNeedle hay needle 0 (Some k)
  found_near k is =
      let place : 0 + k ≡ k = omega arith in
      subst (λ n. FindsNeedle hay needle 0 (Some n)) place
      (first_in_window hay needle 0 end (omega arith) (omega (arith, inside)) 0
      (omega arith) (λ at low high. omega (arith, high)) k
      (same_finds (slice_range hay 0 end) needle (Some k) is))

  module _ (fits : length needle ≤ end) (none : FindsBy itself (slice_range hay 0 end) needle None)
    where
      abbrev from : ℕ
      from = end + 1 - length needle

      not_near : Nowhere (OccursAt hay needle) 0 from
      not_near = subst (Nowhere (OccursAt hay needle) 0) (omega (arith, fits))
          (nowhere_in_window hay needle 0 end (omega arith) (omega (arith, inside)) 0 (omega arith)
          (λ at low high. omega (arith, high)) (omega (arith, fits))
          (same_finds (slice_range hay 0 end) needle None none))

      pub found_far : (k : ℕ) → FindsNeedle (slice_range hay from (length hay)) needle 0 (Some k)
          → FindsNeedle hay needle 0 (Some (from + k))
      found_far k is = first_in_window hay needle from (length hay) (omega (arith, inside))
          (omega arith) 0 (omega arith) not_near k is

      pub found_nowhere : FindsNeedle (slice_range hay from (length hay)) needle 0 None
          → FindsNeedle hay needle 0 None
      found_nowhere not k low high occurs = let ends = occurs.fits in
          nowhere_in_window hay needle from (length hay) (omega (arith, inside)) (omega arith) 0
          (omega arith) not_near (omega (arith, fits, inside)) not k low (omega (arith, ends)) occurs
