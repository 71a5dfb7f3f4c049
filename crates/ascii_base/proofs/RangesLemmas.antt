-- A class as the ranges that a loop has gone through.
use Rattle.std.proofs.Common.{ℕ, ◌≡◌, ◌+◌, ◌<◌, ◌++◌, List, [], ◌∷◌, Bool, true, false, cond, ◌||◌}
use Rattle.std.proofs.Common.{◌&&◌, not, ◌-◌, bit_and, bit_or, leb, length, map, take, get_or, refl}
use Rattle.std.proofs.Common.{ap, sym, ◌∙◌, arith}
use Rattle.std.proofs.lemmas.List.{take_more}
use Rattle.std.proofs.lemmas.Bool.{false≢true}
use Rattle.std.specs.Bool.{Decides}
use lib.Lanes.{top}
use Rattle.ascii_base.specs.Class.{in_ranges}

or_false : (a : Bool) → (a || false) ≡ a
or_false a = grind arith

in_ranges-append : (xs ys : List (ℕ × ℕ)) (n : ℕ)
    → in_ranges (xs ++ ys) n ≡ (in_ranges xs n || in_ranges ys n)
in_ranges-append [] ys n = refl
in_ranges-append (x ∷ xs) ys n = grind (arith, in_ranges-append xs ys n)

-- one range more
pub in_ranges_more : (xs : List (ℕ × ℕ)) (i n : ℕ) → i < length xs
    → in_ranges (take (i + 1) xs) n
    ≡ (in_ranges (take i xs) n
    || (leb (get_or xs i (0, 0)).0 n && leb n (get_or xs i (0, 0)).1))
in_ranges_more xs i n less =
    ap (λ r. in_ranges r n) (take_more xs i (0, 0) less)
    ∙ in_ranges-append (take i xs) (get_or xs i (0, 0) ∷ []) n
    ∙ ap (λ b. in_ranges (take i xs) n || b)
    (or_false (leb (get_or xs i (0, 0)).0 n && leb n (get_or xs i (0, 0)).1))

map_same : (f g : ℕ → ℕ) → ((x : ℕ) → f x ≡ g x) → (xs : List ℕ) → map f xs ≡ map g xs
map_same f g same xs = grind arith

-- the masks of all lanes, after one range more
pub masks_more : (xs : List (ℕ × ℕ)) (i : ℕ) → i < length xs → (lanes : List ℕ)
    → map (λ x. bit_or (cond (in_ranges (take i xs) x) 255 0)
    (bit_and (cond (leb (get_or xs i (0, 0)).0 x) 255 0)
    (cond (leb x (get_or xs i (0, 0)).1) 255 0))) lanes
    ≡ map (λ x. cond (in_ranges (take (i + 1) xs) x) 255 0) lanes
masks_more xs i less = map_same _ _ (grind (arith, leb, in_ranges_more))

-- the mask of a lane that is in a set, turned over
pub flipped : (b : Bool) → top 7 (255 - cond b 255 0) ≡ not b
flipped b = grind arith

not-true : (b : Bool) → not b ≡ true → b ≡ false
not-true b e = grind (arith, false≢true)

not-false : (b : Bool) → not b ≡ false → b ≡ true
not-false b e = grind (arith, false≢true)

-- what a test and its negation say of the set that the test decides
pub is_out : (b : Bool) (P : Type 0) → Decides b P → not b ≡ true → ¬ P
is_out b P decides e is = false≢true (sym (not-true b e) ∙ decides.1 is)

pub is_within : (b : Bool) (P : Type 0) → Decides b P → not b ≡ false → P
is_within b P decides e = decides.0 (not-false b e)
