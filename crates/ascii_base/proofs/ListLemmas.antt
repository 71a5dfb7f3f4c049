-- Facts on lists alone.
use Rattle.std.proofs.Common.{◌≡◌, ◌≢◌, ℕ, ◌+◌, ◌-◌, ◌<◌, ◌≤◌, List, [], ◌∷◌, ◌++◌, length, get_or}
use Rattle.std.proofs.Common.{take, arith, map, reverse, refl, sym, ap, ◌∙◌, None, Option, Some}
use Rattle.std.proofs.Common.{length-append, subst}
use Rattle.std.proofs.lemmas.Grind.{common_steps}
use Rattle.std.proofs.lemmas.List.{map_push, reverse-append, append_assoc, get_or-take, length-take}
use Rattle.std.proofs.lemmas.List.{take_at}
use Rattle.std.specs.List.{AllZip, slice_range, All, AllWithin, HoldsAt, slice_get}
use Rattle.std.proofs.Math.Seq.{get_or-append_seam}
use Rattle.std.proofs.lemmas.List.Elements.{All-cons, All-from_all_within, All-nil, All-push}
use Rattle.std.proofs.lemmas.Option.{slice_get_cases}
use Rattle.std.specs.Option.{MatchOption}
use Rattle.ascii_base.specs.First.{IsFirstAt}

-- a byte of `&bytes[s..e]` is the byte of the source s positions later
pub slice_range-at : (bytes : List ℕ) (s e k : ℕ) → k < e - s
    → get_or (slice_range bytes s e) k 0 ≡ get_or bytes (s + k) 0
slice_range-at bytes s e k h = grind (arith, common_steps)

-- the length of `&bytes[s..e]`
pub length-slice_range : (bytes : List ℕ) (s e : ℕ) → s ≤ e → e ≤ length bytes
    → length (slice_range bytes s e) ≡ e - s
length-slice_range bytes s e a b = grind (arith, common_steps)

-- a list that ends in some items is not empty
pub append-some : {X : Type 0} (xs ys : List X) → ys ≢ [] → xs ++ ys ≢ []
append-some [] ys some = some
append-some (x ∷ xs) ys some = λ none. cc

-- what becomes of the items in reverse
pub map-reverse : {A B : Type 0} (f : A → B) (xs : List A) → map f (reverse xs) ≡ reverse (map f xs)
map-reverse f [] = refl
map-reverse f (x ∷ xs) = ap (map f) (reverse-append (x ∷ []) xs) ∙ rw map_push
    (ap (λ ys. ys ++ f x ∷ []) (map-reverse f xs) ∙ sym (reverse-append (f x ∷ []) (map f xs)))

-- all but the last of two items and more
pub front_is : {X : Type 0} (x y : X) (xs : List X)
    → take (length (x ∷ y ∷ xs) - 1) (x ∷ y ∷ xs) ≡ x ∷ take (length (y ∷ xs) - 1) (y ∷ xs)
front_is x y xs = grind (arith, common_steps)

-- two lists of any types whose items are related pair by pair, with one more pair
pub AllZip-push : {A B : Type 0} (R : A → B → Type 0) (xs : List A) (ys : List B) (x : A) (y : B)
    → AllZip R xs ys → R x y → AllZip R (xs ++ x ∷ []) (ys ++ y ∷ [])
AllZip-push R [] [] x y all last = (last, tt)
AllZip-push R (a ∷ xs) (b ∷ ys) x y all last = (all.0, AllZip-push R xs ys x y all.1 last)
AllZip-push R xs ys x y all last = absurd all

-- ---- what holds of each item

-- what holds of each item of a list holds of the one after the first
pub All-seam : {A : Type 0} (P : A → Type 0) (before after : List A) (here : A)
    → All P (before ++ here ∷ after) → P here
All-seam P before after here each =
    subst P (get_or-append_seam before here after here)
    (each (length before) here (omega (arith, length-append before (here ∷ after))))

-- what holds of the images so far and of one more
pub All-map_push : {A B : Type 0} (P : B → Type 0) (f : A → B) (xs : List A) (x : A)
    → All P (map f xs) → P (f x) → All P (map f (xs ++ x ∷ []))
All-map_push P f xs x each this =
    subst (All P) (sym (map_push f xs x)) (All-push P (map f xs) (f x) each this)

-- each item has the one that it goes with
pub All-from_zip : {A B : Type 0} (R : A → B → Type 0) (xs : List A) (ys : List B)
    → AllZip R xs ys → All (λ x. (y : B) × R x y) xs
All-from_zip {B = B} R [] ys all = All-nil (λ x. (y : B) × R x y)
All-from_zip R (x ∷ xs) [] all = absurd all
All-from_zip {B = B} R (x ∷ xs) (y ∷ ys) all =
    All-cons (λ x. (y : B) × R x y) x xs (y, all.0) (All-from_zip R xs ys all.1)

-- ---- one item of a list is taken

-- the item moves from the list to the items that were taken
pub map-push_front : {A B : Type 0} (f : A → B) (taken : List A) (here : A) (rest : List B)
    → map f (taken ++ here ∷ []) ++ rest ≡ map f taken ++ f here ∷ rest
map-push_front f taken here rest = grind (arith, map_push, append_assoc)

-- ---- the first item with a property

slice_get-seam : {A : Type 0} (before after : List A) (here : A)
    → slice_get (before ++ here ∷ after) (length before) ≡ Some here
slice_get-seam [] after here = refl
slice_get-seam (x ∷ before) after here = slice_get-seam before after here

-- the item after those that have the other property is the first
pub IsFirstAt-seam : {A : Type 0} (Before Here : A → Type 0) (before after : List A) (here : A)
    → All Before before → Here here → (k : ℕ) → length before ≡ k
    → IsFirstAt Before Here (before ++ here ∷ after) k
IsFirstAt-seam Before Here before after here each is k long = grind (arith, slice_get-seam, take_at)

-- the item at a place is the first, as searches say it
pub IsFirstAt-from_at : {A : Type 0} (Before Here : A → Type 0) (items : List A) (i : ℕ)
    → i < length items → HoldsAt Here items i → AllWithin Before items 0 i
    → IsFirstAt Before Here items i
IsFirstAt-from_at Before Here items i inside is each =
    grind (arith, slice_get_cases, length-take, get_or-take)

-- the first item with a property, which `find` finds
pub IsFirstAt-find : {A : Type 0} (Is : A → Type 0) (items : List A) (found : Option A)
    → MatchOption found (AllWithin (λ item. ¬ (Is item)) items 0 (length items))
    (λ it. Is it × (i : ℕ) × (i < length items) × HoldsAt (λ item. item ≡ it) items i
    × AllWithin (λ item. ¬ (Is item)) items 0 i)
    → MatchOption found (All (λ item. ¬ (Is item)) items)
    (λ it. (i : ℕ) × IsFirstAt (λ item. ¬ (Is item)) (λ item. Is item × (item ≡ it)) items i)
IsFirstAt-find Is items None each = All-from_all_within (λ item. ¬ (Is item)) items each
IsFirstAt-find Is items (Some it) first = (
  first.1,
  IsFirstAt-from_at (λ item. ¬ (Is item)) (λ item. Is item × (item ≡ it)) items first.1 first.2
      (λ d. (subst Is (sym (first.3 d)) first.0, first.3 d)) first.4,
)

-- where an item is the first without a property, not all items have it
pub IsFirstAt-not_all : {A : Type 0} (Is : A → Type 0) (items : List A) (k : ℕ)
    → IsFirstAt Is (λ item. ¬ (Is item)) items k → ¬ (All Is items)
IsFirstAt-not_all Is items k first all = grind (arith, slice_get_cases)

-- the last element of a list of two or more is that of the list without the first
pub last_is : (c d : ℕ) (cs : List ℕ)
    → get_or (c ∷ d ∷ cs) (length (c ∷ d ∷ cs) - 1) 0 ≡ get_or (d ∷ cs) (length (d ∷ cs) - 1) 0
last_is c d cs = grind arith
