-- How far a search or a comparison of several bytes at a time has come.
use Rattle.std.specs.Prelude.{ℕ, ◌≡◌, ◌+◌, ◌<◌, ◌≤◌, List, length, slice_index, Option, MatchOption}
use Rattle.std.specs.Prelude.{map, take}
use Rattle.std.specs.Int.{bit_at}
use Rattle.ascii_base.specs.Bytes.{IsFirstNot, IsLastNot}
use Rattle.ascii_base.specs.Case.{lower_image}

-- the bits that are set in `mask` are those of the `n` bytes from position `at` that are not of the
-- class `Is`
pub record Marks (Is : ℕ → Type 0) (bytes : List ℕ) (at n mask : ℕ) : Type 0 where
  pub set : (k : ℕ) → bit_at mask k ≡ 1 → (k < n) × ¬ (Is (slice_index bytes (at + k)))
  pub clear : (k : ℕ) → bit_at mask k ≡ 0 → k < n → Is (slice_index bytes (at + k))

-- every byte before position `e` is of the class `Is`
abbrev pub AllBefore : (ℕ → Type 0) → List ℕ → ℕ → Type 0
AllBefore Is bytes e = (k : ℕ) → k < e → Is (slice_index bytes k)

-- every byte from position `s` is of the class `Is`
abbrev pub AllFrom : (ℕ → Type 0) → List ℕ → ℕ → Type 0
AllFrom Is bytes s = (k : ℕ) → s ≤ k → k < length bytes → Is (slice_index bytes k)

-- `Some` of the position of the first byte that is not of the class `Is`, or `None` if there is
-- none before `e`
abbrev pub FindsFirstNot : (ℕ → Type 0) → List ℕ → ℕ → Option ℕ → Type 0
FindsFirstNot Is bytes e found =
    MatchOption found (AllBefore Is bytes e) (IsFirstNot Is bytes 0 (length bytes))

-- `Some` of the position of the last byte that is not of the class `Is`, or `None` if there is none
-- from `s`
abbrev pub FindsLastNot : (ℕ → Type 0) → List ℕ → ℕ → Option ℕ → Type 0
FindsLastNot Is bytes s found = MatchOption found (AllFrom Is bytes s) (IsLastNot Is bytes)

-- the bytes before position `e` are equal in both sources, ignoring ASCII case
abbrev pub SameBefore : List ℕ → List ℕ → ℕ → Type 0
SameBefore xs ys e = map lower_image (take e xs) ≡ map lower_image (take e ys)
