-- The tests of some classes by name, and that those which are not ranges decide their class.
use Rattle.std.specs.Prelude.{◌≡◌, ℕ, zero, suc, ◌<◌, ◌||◌, ◌⊎◌, Bool, false, List, [], ◌∷◌, codes}
use Rattle.std.proofs.Common.{arith, eqb, inl, inr, rules}
use lib.Dec.{ltb}
use Rattle.std.specs.Bool.{Decides}
use Rattle.std.specs.List.{Contains}
use Rattle.std.proofs.lemmas.Bool.{false≢true}
use Rattle.std.proofs.lemmas.Bool.Decides.{Decides-eqb, Decides-like, Decides-ltb, Decides-or}
use Rattle.ascii_base.specs.Class.{IsAlphanumeric, IsTokenCode, in_ranges}

-- the test of the class `Whitespace`
abbrev pub is_whitespace : ℕ → Bool
is_whitespace n = in_ranges ((9, 13) ∷ (32, 32) ∷ []) n

abbrev pub is_ascii : ℕ → Bool
is_ascii n = ltb n 128

pub is_ascii-decides : (n : ℕ) → Decides (is_ascii n) (n < 128)
is_ascii-decides n = Decides-ltb n 128

-- whether a code is in a list
abbrev pub member : List ℕ → ℕ → Bool
member [] n = false
member (x ∷ xs) n = eqb x n || member xs n

held : (x n : ℕ) (xs : List ℕ) → (x ≡ n) ⊎ Contains xs n → Contains (x ∷ xs) n
held x n xs (inl is) = (0, omega arith, is)
held x n xs (inr later) = (suc later.0, omega (arith, later.1), later.2)

split : (x n : ℕ) (xs : List ℕ) → Contains (x ∷ xs) n → (x ≡ n) ⊎ Contains xs n
split x n xs (zero, inside, is) = inl is
split x n xs (suc k, inside, is) = inr (k, omega (arith, inside), is)

member-decides : (xs : List ℕ) (n : ℕ) → Decides (member xs n) (Contains xs n)
member-decides [] n = (λ is. absurd (false≢true is), λ at. absurd (omega (arith, at.1)))
member-decides (x ∷ xs) n = Decides-like (eqb x n || member xs n) (held x n xs) (split x n xs)
    (Decides-or (eqb x n) (member xs n) (Decides-eqb x n) (member-decides xs n))

abbrev is_alphanumeric : ℕ → Bool
is_alphanumeric n = in_ranges ((48, 57) ∷ (65, 90) ∷ (97, 122) ∷ []) n

is_alphanumeric-decides : (n : ℕ) → Decides (is_alphanumeric n) (IsAlphanumeric n)
is_alphanumeric-decides n = search rules

abbrev pub is_token : ℕ → Bool
is_token n = is_alphanumeric n || member (codes "!#$%&'*+-.^_`|~") n

pub is_token-decides : (n : ℕ) → Decides (is_token n) (IsTokenCode n)
unfolding IsTokenCode
is_token-decides n =
    Decides-or (is_alphanumeric n) (member (codes "!#$%&'*+-.^_`|~") n) (is_alphanumeric-decides n)
    (member-decides (codes "!#$%&'*+-.^_`|~") n)
