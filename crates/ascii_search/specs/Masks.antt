-- What a mask of bits says of the positions of a search.
use Rattle.std.specs.Prelude.{ℕ, ◌≡◌, ◌+◌, ◌-◌, ◌/◌, ◌<◌, ◌≤◌, List, length, get_or}
use Rattle.std.specs.Int.{bit_at}
use Rattle.std.specs.declared.option.Option.{Option}
use Rattle.memchr.specs.Find.{IsFirst}

-- bit `k` of `mask` is set
abbrev pub HasBit : ℕ → ℕ → Type 0
HasBit mask k = bit_at mask k ≡ 1

-- `hay` has byte `j` of `needle` where it is if the needle is at position `k`. Bytes with the same
-- image count as the same
abbrev pub HasByte : (ℕ → ℕ) → List ℕ → List ℕ → ℕ → ℕ → Type 0
HasByte image hay needle k j = image (get_or hay (k + j) 0) ≡ image (get_or needle j 0)

-- the needle is at position `k`
pub record OccursBy (image : ℕ → ℕ) (hay needle : List ℕ) (k : ℕ) : Type 0 where
  pub fits : k + length needle ≤ length hay
  pub reads : (j : ℕ) → j < length needle → HasByte image hay needle k j

-- the first position of the needle, or `None` if there is none
abbrev pub FindsBy : (ℕ → ℕ) → List ℕ → List ℕ → Option ℕ → Type 0
FindsBy image hay needle found = IsFirst (OccursBy image hay needle) 0 (length hay + 1) found

-- the image of a byte that only the same byte has
abbrev pub itself : ℕ → ℕ
itself byte = byte

-- `hay` has the `n` bytes of `needle` from `from` on where they are if the needle is at `k`
abbrev pub HasPart : List ℕ → List ℕ → ℕ → ℕ → ℕ → Type 0
HasPart hay needle k from n = (j : ℕ) → from ≤ j → j < from + n → HasByte itself hay needle k j

-- position `k` of `hay` is a candidate: `needle` fits there, and would have its first, its middle
-- and its last byte
pub record IsCandidate (image : ℕ → ℕ) (hay needle : List ℕ) (k : ℕ) : Type 0 where
  pub fits : k + length needle ≤ length hay
  pub first : HasByte image hay needle k 0
  pub middle : HasByte image hay needle k (length needle / 2)
  pub last : HasByte image hay needle k (length needle - 1)

-- of the `n` positions of `hay` from `start` on, each where `needle` is has its bit set in `mask`,
-- and each bit that is set is that of a candidate among them
pub record MarksCandidates (image : ℕ → ℕ) (hay needle : List ℕ) (start n mask : ℕ) : Type 0 where
  pub each : (k : ℕ) → k < n → OccursBy image hay needle (start + k) → HasBit mask k
  pub set : (k : ℕ) → HasBit mask k → (k < n) × IsCandidate image hay needle (start + k)
