-- The order of texts when the case of letters is ignored, code by code.
use Rattle.std.proofs.Common.{◌≡◌, ℕ, ◌+◌, ◌<◌, ◌≤◌, List, [], ◌∷◌, length, drop, map, get_or}
use Rattle.std.proofs.Common.{arith, refl, ◌⊎◌}
use Rattle.std.proofs.lemmas.Bool.Decides.{nat_tests}
use Rattle.std.proofs.lemmas.Grind.{common_steps}
use Rattle.std.proofs.lemmas.List.{drop_more}
use Rattle.std.specs.Cmp.Lexicographic.{slice_cmp}
use Rattle.std.specs.Ordering.{nat_cmp, ordering_then}
use Rattle.std.specs.declared.cmp.Ordering.{Ordering}
use Rattle.ascii.specs.Case.{lower_image}

-- the order of what two texts have from the position `i` on
abbrev pub rest_cmp : List ℕ → List ℕ → ℕ → Ordering
rest_cmp xs ys i = slice_cmp nat_cmp (map lower_image (drop i xs)) (map lower_image (drop i ys))

-- the codes at a position decide, or what follows them
pub compares_next : (xs ys : List ℕ) (i : ℕ) → i < length xs → i < length ys
    → rest_cmp xs ys i
    ≡ ordering_then (nat_cmp (lower_image (get_or xs i 0)) (lower_image (get_or ys i 0)))
    (rest_cmp xs ys (i + 1))
compares_next xs ys i a b = grind (arith, drop_more)

-- the order of two texts of which one is empty
order_of_ends : (xs ys : List ℕ) → (length xs ≡ 0) ⊎ (length ys ≡ 0)
    → slice_cmp nat_cmp xs ys ≡ nat_cmp (length xs) (length ys)
order_of_ends [] [] ends = refl
order_of_ends [] (y ∷ ys) ends = grind (arith, nat_tests)
order_of_ends (x ∷ xs) [] ends = grind (arith, nat_tests)
order_of_ends (x ∷ xs) (y ∷ ys) ends = absurd (omega arith)

-- two texts of which one has ended are ordered as their lengths are
pub compares_end : (xs ys : List ℕ) (i : ℕ) → i ≤ length xs → i ≤ length ys
    → (length xs ≡ i) ⊎ (length ys ≡ i) → rest_cmp xs ys i ≡ nat_cmp (length xs) (length ys)
compares_end xs ys i a b ends = grind (arith, common_steps, nat_tests, order_of_ends)
