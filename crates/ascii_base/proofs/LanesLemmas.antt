-- From the vectors of a load to the bytes that it is of.
use Rattle.std.proofs.Common.{◌≡◌, ℕ, ◌+◌, ◌-◌, ◌*◌, ◌%◌, ◌^◌, ◌<◌, ◌≤◌, suc, Bool, true, false}
use Rattle.std.proofs.Common.{cond, List, [], ◌∷◌, map, length, get_or, replicate, Fits, w8, w64}
use Rattle.std.proofs.Common.{◌≢◌, bit_or, refl, sym, ap, ◌∙◌, arith, inl, inr, MatchOption, None}
use Rattle.std.proofs.Common.{Option, Some}
use Rattle.std.specs.Bool.{Decides}
use Rattle.std.specs.Int.{bit_at}
use Rattle.std.specs.Int.Bits.{bit_xor}
use Rattle.std.specs.List.{All}
use Rattle.std.proofs.Math.Nat.{mod-eq_of_lt}
use Rattle.std.proofs.Math.Pow.{pow-lt}
use Rattle.std.proofs.lemmas.Bool.{agree_below, agree_below_at, cases_lt, cases_eq, cases_Bool}
use Rattle.std.proofs.lemmas.Bool.Decides.{not_from_Decides}
use Rattle.std.proofs.lemmas.List.{length-map, get_or-map, get_or_past}
use Rattle.std.proofs.lemmas.List.Elements.{All-from_get_or}
use Rattle.std.proofs.lemmas.Nat.{le_or_l, le_or_r}
use Rattle.std.proofs.lemmas.Nat.Bits.{bit_at-lt, bit_at_ones, bit_at_ones_above, bit_at_xor}
use Rattle.std.proofs.lemmas.Nat.Bits.{bit_at-zero, bit_at_cat_high, bit_at_set_same}
use Rattle.std.proofs.lemmas.Nat.Bits.{bit_at_set_other}
use Rattle.std.proofs.lemmas.Simd.{map-map, mask_l-mod, bit_mask_l, length-chunk, get_or-chunk}
use lib.Lanes.{mask_l, top, sel_l, chunk}
use Rattle.ascii_base.specs.Bytes.{IsFirstNot, IsFirstOf, IsLastNot, IsLastOf}
use Rattle.ascii_base.specs.Lanes.{AllBefore, AllFrom, FindsFirstNot, FindsLastNot, Marks}

pub itself : (lanes : List ℕ) → lanes ≡ map (λ x. x) lanes
itself [] = refl
itself (x ∷ xs) = ap (λ r. x ∷ r) (itself xs)

-- a choice of two splats, lane by lane
pub chosen : (test : ℕ → Bool) (here other : ℕ) (lanes : List ℕ) (n : ℕ) {ms : List Bool}
    → length lanes ≡ n → ms ≡ map test lanes
    → sel_l ms (replicate n here) (replicate n other) ≡ map (λ x. cond (test x) here other) lanes
chosen test here other lanes n long e = grind (arith, replicate, long, go)
  where
    go : (xs : List ℕ) → sel_l (map test xs) (replicate (length xs) here)
        (replicate (length xs) other) ≡ map (λ x. cond (test x) here other) xs
    go [] = refl
    go (x ∷ xs) = ap (λ r. cond (test x) here other ∷ r) (go xs)

-- the mask of a vector z that is computed lane by lane from a load: its top bits are what the test
-- says of each byte
module _ (Is : ℕ → Type 0) (test : ℕ → Bool) (outside : (x : ℕ) → test x ≡ true → ¬ (Is x))
    (within : (x : ℕ) → test x ≡ false → Is x)
    (f : ℕ → ℕ) (all : (x : ℕ) → x < 256 → top 7 (f x) ≡ test x) where
  pub marks_by : (bytes : List ℕ) (at n : ℕ) → at + n ≤ length bytes → n ≤ 64
      → ((k : ℕ) → Fits w8 (get_or bytes k 0))
      → (z : List ℕ) → z ≡ map f (chunk at n bytes)
      → Marks Is bytes at n (mask_l (map (top 7) z) % 2 ^ 64)
  marks_by bytes at n room few fits z e = grind (arith, cases_lt, cases_Bool, bit, past)
    where
      ms : List Bool
      ms = map (λ x. top 7 (f x)) (chunk at n bytes)

      long : length ms ≡ n
      long = length-map (chunk at n bytes) (λ x. top 7 (f x)) ∙ length-chunk at n bytes room

      any : (k : ℕ) → bit_at (mask_l (map (top 7) z) % 2 ^ 64) k ≡ cond (get_or ms k false) 1 0
      any k = ap (λ m. bit_at m k) (ap (λ l. mask_l l % 2 ^ 64) (ap (map (top 7)) e
          ∙ map-map (top 7) f (chunk at n bytes)) ∙ mask_l-mod ms 64 (omega (arith, long)))
          ∙ bit_mask_l ms k

      bit : (k : ℕ) → k < n → bit_at (mask_l (map (top 7) z) % 2 ^ 64) k ≡ cond
          (test (get_or bytes (at + k) 0)) 1 0
      bit k l = grind (arith, length-chunk, get_or-map, get_or-chunk, any)

      past : (k : ℕ) → n ≤ k → bit_at (mask_l (map (top 7) z) % 2 ^ 64) k ≡ 0
      past k g = any k ∙ ap (λ b. cond b 1 0) (get_or_past ms k false (omega (arith, long)))

-- the same, where the test is compared byte by byte by computing it
pub marks_of : (Is : ℕ → Type 0) (test : ℕ → Bool) → ((x : ℕ) → test x ≡ true → ¬ (Is x))
    → ((x : ℕ) → test x ≡ false → Is x)
    → (f : ℕ → ℕ) → agree_below (λ x. top 7 (f x)) test 256 ≡ true
    → (bytes : List ℕ) (at n : ℕ) → at + n ≤ length bytes → n ≤ 64
    → ((k : ℕ) → Fits w8 (get_or bytes k 0))
    → (z : List ℕ) → z ≡ map f (chunk at n bytes)
    → Marks Is bytes at n (mask_l (map (top 7) z) % 2 ^ 64)
marks_of Is test outside within f all = marks_by Is test outside within f
    (λ x less. agree_below_at (λ x. top 7 (f x)) test 256 x all less)

-- the bit at k of a number from 2 ^ k up to its double
pub highest_bit : (m k : ℕ) → 2 ^ k ≤ m → m < 2 * 2 ^ k → bit_at m k ≡ 1
highest_bit m k low high = grind (arith, low, high, bit_at_cat_high)

-- two masks of which neither has a bit
pub or_zero : (a b : ℕ) → bit_or a b ≡ 0 → (a ≡ 0) × (b ≡ 0)
or_zero a b none = (omega (arith, none, le_or_l a b), omega (arith, none, le_or_r a b))

-- a mask with no bit
pub no_bit : (mask : ℕ) → mask ≡ 0 → (k : ℕ) → bit_at mask k ≡ 0
no_bit mask none k = ap (λ m. bit_at m k) none ∙ bit_at-zero k

module _ (Is : ℕ → Type 0) (bytes : List ℕ) (at n mask : ℕ) (marks : Marks Is bytes at n mask)
    (room : at + n ≤ length bytes) where
  -- bytes of the class go on over the lanes before the first mark
  pub before_more : (m : ℕ) → m ≤ n → ((k : ℕ) → k < m → bit_at mask k ≡ 0)
      → AllBefore Is bytes at → AllBefore Is bytes (at + m)
  before_more m le clear before k to =
      elim (cases_lt k at) [
        | inl l ↦ before k l
        | inr g ↦
            let same : at + (k - at) ≡ k = omega arith in
            grind arith
      ]

  -- the same over all lanes, if none has a mark
  pub before_all : mask ≡ 0 → AllBefore Is bytes at → AllBefore Is bytes (at + n)
  before_all none = before_more n (omega arith) (λ k l. no_bit mask none k)

  -- the last byte with a mark, over the lanes after the last mark
  pub from_more : (m : ℕ) → ((k : ℕ) → m ≤ k → bit_at mask k ≡ 0) → AllFrom Is bytes (at + n)
      → AllFrom Is bytes (at + m)
  from_more m clear after k from to =
      elim (cases_lt k (at + n)) [
        | inl l ↦
            let same : at + (k - at) ≡ k = omega arith in
            grind arith
        | inr g ↦ after k g to
      ]

  -- the first mark
  pub first_mark : (k : ℕ) → bit_at mask k ≡ 1 → ((j : ℕ) → j < k → bit_at mask j ≡ 0)
      → AllBefore Is bytes at → IsFirstNot Is bytes 0 (length bytes) (at + k)
  first_mark k set clear before =
      let is = marks.set k set in
      let short : k < n = is.0 in
      record {
        at_least = omega arith;
        inside = omega arith;
        other = is.1;
        least =
            λ j from to. before_more k (omega arith) clear before j to;
      }

  -- the last mark
  pub last_mark : (k : ℕ) → bit_at mask k ≡ 1 → ((j : ℕ) → k < j → bit_at mask j ≡ 0)
      → AllFrom Is bytes (at + n) → IsLastNot Is bytes (at + k)
  last_mark k set clear after =
      let is = marks.set k set in
      let short : k < n = is.0 in
      record {
        inside = omega arith;
        other = is.1;
        greatest =
            λ j from to. from_more (suc k) (λ i l. clear i (omega arith)) after j (omega arith) to;
      }

-- the marks of the other side are the other lanes
pub marks_other : (Is : ℕ → Type 0) (bytes : List ℕ) (at n mask : ℕ) → n < 64
    → Marks Is bytes at n mask
    → Marks (λ byte. ¬ (Is byte)) bytes at n (bit_xor mask (1 * 2 ^ n % 2 ^ 64 - 1))
marks_other Is bytes at n mask few marks = grind (arith, cases_lt, low, bit_at-lt, high)
  where
    ones : 1 * 2 ^ n % 2 ^ 64 - 1 ≡ 2 ^ n - 1
    ones = grind (arith, pow-lt, mod-eq_of_lt)

    low : (k : ℕ) → k < n
        → bit_at (bit_xor mask (1 * 2 ^ n % 2 ^ 64 - 1)) k ≡ (bit_at mask k + 1) % 2
    low k l = ap (λ m. bit_at (bit_xor mask m) k) ones ∙ (grind (arith, bit_at_xor, bit_at_ones))

    high : (k : ℕ) → n ≤ k
        → bit_at (bit_xor mask (1 * 2 ^ n % 2 ^ 64 - 1)) k ≡ (bit_at mask k + 0) % 2
    high k g = grind (arith, ones, bit_at_xor, bit_at_ones_above)

-- what is not outside a class is in it
module _ (Is : ℕ → Type 0) (test : ℕ → Bool) (decides : (n : ℕ) → Decides (test n) (Is n)) where
  pub first_of_found : (bytes : List ℕ) (found : Option ℕ)
      → FindsFirstNot (λ byte. ¬ (Is byte)) bytes (length bytes) found
      → MatchOption found (All (λ byte. ¬ (Is byte)) bytes) (IsFirstOf Is bytes 0 (length bytes))
  first_of_found bytes None all = All-from_get_or (λ byte. ¬ (Is byte)) bytes 0 all
  first_of_found bytes (Some i) found = grind (arith, cases_Bool, not_from_Decides)

  pub last_of_found : (bytes : List ℕ) (found : Option ℕ)
      → FindsLastNot (λ byte. ¬ (Is byte)) bytes 0 found
      → MatchOption found (All (λ byte. ¬ (Is byte)) bytes) (IsLastOf Is bytes)
  last_of_found bytes None all = All-from_get_or (λ byte. ¬ (Is byte)) bytes 0
      (λ k l. all k (omega arith) l)
  last_of_found bytes (Some i) found = grind (arith, cases_Bool, not_from_Decides)

-- one byte more that is not in the class sets its bit, and one in the class leaves it clear
module _ (Is : ℕ → Type 0) (bytes : List ℕ) (at k mask : ℕ) where
  pub mark_more : k < 64 → Marks Is bytes at k mask → ¬ (Is (get_or bytes (at + k) 0))
      → Marks Is bytes at (k + 1) (bit_or mask (1 * 2 ^ k % 2 ^ 64))
  mark_more few marks out = record {
    set = λ j is. elim (cases_eq j k) [
      | inl same ↦ grind arith
      | inr other ↦
          let old = marks.set j (sym (bit_at_set_other w64 mask k few j other) ∙ is) in
          let short : j < k = old.0 in (omega arith, old.1)
    ];
    clear = λ j is l. elim (cases_eq j k) [
      | inl same ↦
          let set : bit_at (bit_or mask (1 * 2 ^ k % 2 ^ 64)) j ≡ 1 =
          ap (bit_at (bit_or mask (1 * 2 ^ k % 2 ^ 64))) same ∙ bit_at_set_same w64 mask k few in
          absurd (omega (arith, is, set))
      | inr other ↦
          let apart : j ≢ k = other in
          marks.clear j (sym (bit_at_set_other w64 mask k few j other) ∙ is) (omega arith)
    ];
  }

  pub mark_none : Marks Is bytes at k mask → Is (get_or bytes (at + k) 0)
      → Marks Is bytes at (k + 1) mask
  mark_none marks here = grind (arith, cases_eq)
