-- The last item of a list, and where items that are laid end to end start.
use Rattle.std.proofs.Common.{◌≡◌, ◌≢◌, ◌+◌, ◌∙◌, ℕ, List, [], ◌∷◌, ◌++◌, ap, arith, length, refl, suc}
use Rattle.std.proofs.Common.{sym, take, zero}
use Rattle.ascii.specs.Spans.{WithStart, items_of, with_starts}

-- a list of `n` items and one more ends in that one
pub ends_in_one : {A : Type 0} (n : ℕ) (xs : List A) → length xs ≡ n + 1
    → (x : A) × (take n xs ++ x ∷ [] ≡ xs)
ends_in_one n [] is = absurd (omega (arith, is))
ends_in_one zero (x ∷ []) is = (x, refl)
ends_in_one zero (x ∷ y ∷ xs) is = absurd (omega (arith, is))
ends_in_one (suc n) (x ∷ xs) is =
    let last = ends_in_one n xs (omega (arith, is)) in
    (last.0, ap (λ t. x ∷ t) last.1)

-- the start of the first span, or 0 if there is none
abbrev first_start : {A : Type 0} → List (WithStart A) → ℕ
first_start [] = 0
first_start (span ∷ spans) = span.start

-- spans that are laid end to end, and the same with more after them, have one start
pub same_start : {A : Type 0} (size : A → ℕ) (a b : ℕ) (spans more : List (WithStart A))
    → spans ≢ [] → spans ≡ with_starts size a (items_of spans)
    → spans ++ more ≡ with_starts size b (items_of (spans ++ more)) → a ≡ b
same_start size a b [] more some left whole = absurd (some refl)
same_start size a b (span ∷ spans) more some left whole =
    sym (ap first_start left) ∙ ap first_start whole
