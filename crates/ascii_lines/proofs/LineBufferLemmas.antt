-- The bytes of a buffer, and those after them after a read.
use Rattle.std.proofs.Common.{◌≡◌, ℕ, ◌+◌, ◌-◌, ◌<◌, ◌≤◌, List, ◌++◌, length, get_or, take, drop}
use Rattle.std.proofs.Common.{arith}
use Rattle.std.specs.List.{slice_range}
use Rattle.std.proofs.Math.Seq.{take-add}
use Rattle.std.proofs.lemmas.List.{drop-drop, drop-take, get_or-take}
use Rattle.std.proofs.lemmas.Slice.{between_is}
use Rattle.ascii.proofs.ListLemmas.{length-slice_range, slice_range-at}
use Rattle.ascii_lines.specs.LineBuffer.{IsAsciiLength, IsLaidOut}

-- a byte of a part, by its position in the whole
at_place : (bytes : List ℕ) (s e k : ℕ) → s ≤ k → k < e
    → get_or (slice_range bytes s e) (k - s) 0 ≡ get_or bytes k 0
at_place bytes s e k low high = grind (arith, slice_range-at)

-- ---- bytes taken from the front

module _ (size : ℕ) (bytes : List ℕ) (given from checked filled n : ℕ) (held : List ℕ)
    (laid : IsLaidOut size bytes given from checked filled)
    (view : slice_range bytes from filled ≡ held) (low : n ≤ length held) where
  inside : from + n ≤ filled
  inside = grind (arith, length-slice_range)

  -- what is held after `n` bytes were taken
  pub held_rest : slice_range bytes (from + n) filled ≡ drop n held
  held_rest =
      let size : filled - from ≡ n + (filled - (from + n)) = omega (arith, inside) in
      grind (arith, drop-take, drop-drop)

  -- where the bytes are after `n` were taken, of which one is not less than 128
  pub laid_after : (m : ℕ) → IsAsciiLength (slice_range bytes (from + n) filled) m
      → IsLaidOut size bytes from (from + n) (from + n + m) filled
  laid_after m ascii = grind (arith, inside, at_place, slice_range-at, length-slice_range)

-- ---- a read after the bytes

module _ (old new : List ℕ) (filled : ℕ) (front : take filled new ≡ take filled old) where
  pub at_front : (k : ℕ) → k < filled → get_or new k 0 ≡ get_or old k 0
  at_front k inside = grind (arith, inside, get_or-take)

  -- what is held after a read
  pub held_more : (from n : ℕ) → from ≤ filled
      → slice_range new from (filled + n) ≡ slice_range old from filled ++ slice_range new filled
      (filled + n)
  held_more from n low =
      let size : filled + n - from ≡ (filled - from) + n = omega arith in
      grind (arith, between_is, drop-drop, take-add)

  -- where the bytes are after a read, if all before it are less than 128
  pub refilled : (size given from n m : ℕ) → IsLaidOut size old given from filled filled
      → length new ≡ length old → filled + n ≤ length new
      → IsAsciiLength (slice_range new filled (filled + n)) m
      → IsLaidOut size new given from (filled + m) (filled + n)
  refilled size given from n m laid same within ascii =
      grind (arith, at_front, at_place, slice_range-at, length-slice_range)

  -- and if one before it is not
  pub refilled_other : (size given from checked n : ℕ)
      → IsLaidOut size old given from checked filled → checked < filled
      → length new ≡ length old → filled + n ≤ length new
      → IsLaidOut size new given from checked (filled + n)
  refilled_other size given from checked n laid other same within = grind (arith, at_front)
