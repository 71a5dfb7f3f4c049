-- The first and the last byte of a source that is of a class, or is not.
use Rattle.std.specs.Prelude.{ℕ, ◌<◌, ◌≤◌, Bool, true, false, List, length, slice_index}

-- the codes on one side of the class `Is`: those in the class if the test is true, and those that
-- are not in it if the test is false
abbrev pub IsOnSide : (ℕ → Type 0) → Bool → ℕ → Type 0
IsOnSide Is true = Is
IsOnSide Is false = λ code. ¬ (Is code)

-- `i` is the position of the first byte from `s` up to, but not including, `e` that is not of the
-- class `Is`
pub record IsFirstNot (Is : ℕ → Type 0) (bytes : List ℕ) (s e i : ℕ) : Type 0 where
  pub at_least : s ≤ i
  pub inside : i < e
  pub other : ¬ (Is (slice_index bytes i))
  pub least : (k : ℕ) → s ≤ k → k < i → Is (slice_index bytes k)

-- `i` is the position of the last byte that is not of the class `Is`
pub record IsLastNot (Is : ℕ → Type 0) (bytes : List ℕ) (i : ℕ) : Type 0 where
  pub inside : i < length bytes
  pub other : ¬ (Is (slice_index bytes i))
  pub greatest : (k : ℕ) → i < k → k < length bytes → Is (slice_index bytes k)

-- `i` is the position of the first byte from `s` up to, but not including, `e` that is of the class
-- `Is`
pub record IsFirstOf (Is : ℕ → Type 0) (bytes : List ℕ) (s e i : ℕ) : Type 0 where
  pub at_least : s ≤ i
  pub inside : i < e
  pub one : Is (slice_index bytes i)
  pub least : (k : ℕ) → s ≤ k → k < i → ¬ (Is (slice_index bytes k))

-- `i` is the position of the last byte that is of the class `Is`
pub record IsLastOf (Is : ℕ → Type 0) (bytes : List ℕ) (i : ℕ) : Type 0 where
  pub inside : i < length bytes
  pub one : Is (slice_index bytes i)
  pub greatest : (k : ℕ) → i < k → k < length bytes → ¬ (Is (slice_index bytes k))

-- `FirstOther bytes s e i`: `i` is the position of the first non-ASCII byte from `s` up to, but not
-- including, `e`
abbrev pub FirstOther : List ℕ → ℕ → ℕ → ℕ → Type 0
FirstOther = IsFirstNot (λ byte. byte < 128)
