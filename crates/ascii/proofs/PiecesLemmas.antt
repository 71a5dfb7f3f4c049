-- The pieces of a text at a separator are one list, and how it breaks at either end.
use Rattle.std.proofs.Common.{◌≡◌, ◌≢◌, ℕ, ◌+◌, ◌≤◌, Bool, true, false, eqb, List, [], ◌∷◌, rules}
use Rattle.std.proofs.Common.{◌++◌, length, refl, sym, ap, ◌∙◌, arith}
use Rattle.std.specs.List.{All, Contains, join_with_byte, slice_split, onto_first}
use Rattle.std.proofs.lemmas.Bool.Decides.{nat_tests}
use Rattle.std.proofs.lemmas.Bool.{cases_Bool, cond_both, eqb-false, ne_eqb}
use Rattle.std.proofs.lemmas.List.{get_or_default}
use Rattle.std.proofs.lemmas.List.Elements.{All-cons, All-tail, All-nil, All-weaker, All-contains}
use Rattle.std.proofs.lemmas.List.Sums.{count_by-le-length}
use Rattle.std.proofs.lemmas.List.Splits.{slice_split-cons_yes, slice_split-cons_no}
use Rattle.std.proofs.lemmas.List.Splits.{slice_split_none, slice_split_at, length-slice_split}
use Rattle.std.proofs.lemmas.List.Splits.{join_with_byte-slice_split}
use Rattle.ascii.specs.Found.{HasNo, pieces_of}
use Rattle.ascii.specs.Pieces.{Pieces}

-- ---- what a test says of each code, and what the list holds

pub HasNo-from_absent : (on : ℕ) (piece : List ℕ) → ¬ (Contains piece on) → HasNo on piece
HasNo-from_absent on piece absent k d inside =
    ne_eqb _ on (λ is. absent (k, inside, get_or_default piece k on d inside ∙ is))

pub absent-from_Free : (on : ℕ) (piece : List ℕ) → HasNo on piece → ¬ (Contains piece on)
absent-from_Free on piece free held = grind (arith, eqb-false, All-contains, eqb)

-- ---- how a list of pieces breaks

-- there is at least one piece
pub slice_split-some : {X : Type 0} (p : X → Bool) (xs : List X) → slice_split p xs ≢ []
slice_split-some p xs none = absurd (omega (arith, length-slice_split p xs, ap length none))

onto_first-append : {X : Type 0} (x : X) (ps qs : List (List X)) → ps ≢ []
    → onto_first x (ps ++ qs) ≡ onto_first x ps ++ qs
onto_first-append x ps qs some = grind arith

-- the pieces around a separator are those before it, and then those after it
pub slice_split-joint : {X : Type 0} (p : X → Bool) (a : List X) (c : X) (b : List X) → p c ≡ true
    → slice_split p (a ++ c ∷ b) ≡ slice_split p a ++ slice_split p b
slice_split-joint p [] c b cuts = slice_split-cons_yes p c b cuts
slice_split-joint p (x ∷ xs) c b cuts =
    let others = slice_split-joint p xs c b cuts in
    let one = onto_first-append x (slice_split p xs) (slice_split p b) (slice_split-some p xs) in
    grind (arith, others, one, cases_Bool (p x), slice_split-cons_yes p x, slice_split-cons_no p x)

-- a separator is one
pub is_on : (on : ℕ) → eqb on on ≡ true
is_on on = grind (arith, nat_tests)

-- the first piece is before the first separator
pub pieces_of-split_at_first : (on : ℕ) (t a b : List ℕ) → t ≡ a ++ on ∷ b → HasNo on a
    → pieces_of on t ≡ a ∷ pieces_of on b
pieces_of-split_at_first on t a b is free = grind (arith, slice_split_at, is_on)

-- the last piece comes after the last separator
pub pieces_of-split_at_last : (on : ℕ) (t a b : List ℕ) → t ≡ a ++ on ∷ b → HasNo on b
    → pieces_of on t ≡ pieces_of on a ++ b ∷ []
pieces_of-split_at_last on t a b is free = grind (arith, slice_split-joint, is_on, slice_split_none)

-- a text without the separator is its one piece
pub pieces_of-free : (on : ℕ) (t : List ℕ) → HasNo on t → pieces_of on t ≡ t ∷ []
pieces_of-free on t free = slice_split_none _ t free

-- ---- the one list

onto_first-free : (on x : ℕ) (parts : List (List ℕ)) → eqb x on ≡ false → All (HasNo on) parts
    → All (HasNo on) (onto_first x parts)
onto_first-free on x [] is free = search (rules, All-cons, All-nil)
onto_first-free on x (part ∷ parts) is free = All-cons (HasNo on) (x ∷ part) parts
    (All-cons (λ code. eqb code on ≡ false) x part is (free 0 [] (omega arith)))
    (All-tail (HasNo on) part parts free)

pub all_free : (on : ℕ) (t : List ℕ) → All (HasNo on) (pieces_of on t)
all_free on [] = search (rules, All-cons, All-nil)
all_free on (x ∷ xs) =
    grind (arith, cond_both, eqb, All-cons, All-nil, onto_first-free, all_free on xs)

-- the pieces found are in the relation
pub Pieces-pieces_of : (t : List ℕ) (on : ℕ) → Pieces t on (pieces_of on t)
Pieces-pieces_of t on = record {
  some = slice_split-some _ t;
  free = All-weaker _ _ (absent-from_Free on) (pieces_of on t) (all_free on t);
  joined = join_with_byte-slice_split on t;
}

-- pieces that hold no separator are found again when they are joined
pieces_of-joined : (on : ℕ) (pieces : List (List ℕ)) → pieces ≢ [] → All (HasNo on) pieces
    → pieces_of on (join_with_byte on pieces) ≡ pieces
pieces_of-joined on [] some free = absurd (some refl)
pieces_of-joined on (piece ∷ []) some free = slice_split_none _ piece (free 0 [] (omega arith))
pieces_of-joined on (piece ∷ next ∷ others) some free =
    slice_split_at _ piece on _ (free 0 [] (omega arith)) (is_on on)
    ∙ ap (λ ps. piece ∷ ps) (pieces_of-joined on (next ∷ others) (λ none. cc)
    (All-tail (HasNo on) piece (next ∷ others) free))

-- no other list is in the relation
pub Pieces-only : (t : List ℕ) (on : ℕ) (pieces : List (List ℕ)) → Pieces t on pieces
    → pieces ≡ pieces_of on t
Pieces-only t on pieces held = sym (pieces_of-joined on pieces held.some
    (All-weaker _ _ (HasNo-from_absent on) pieces held.free)) ∙ ap (pieces_of on) held.joined

-- there is at most one more than the codes of the text
pub length-pieces_of : (on : ℕ) (t : List ℕ) → length (pieces_of on t) ≤ length t + 1
length-pieces_of on t = grind (arith, length-slice_split, eqb, count_by-le-length)
