-- Marks of the last codes of a text, bit by bit.
use Rattle.std.proofs.Common.{◌≡◌, ◌≢◌, ℕ, zero, suc, ◌+◌, ◌-◌, ◌*◌, ◌/◌, ◌%◌, ◌^◌, ◌<◌, ◌≤◌}
use Rattle.std.proofs.Common.{Bool, true, false, not, List, length, get_or, drop, take, bit_and}
use Rattle.std.proofs.Common.{min, w64, sym, ap, ◌∙◌, subst, arith, inl, inr}
use Rattle.std.specs.Int.{bit_at, bit_not}
use Rattle.std.specs.Int.Bits.{bit_xor}
use Rattle.std.proofs.Math.Nat.{mod-eq_of_lt}
use Rattle.std.proofs.Math.Pow.{pow-lt}
use Rattle.std.proofs.lemmas.Bool.{cases_eq, cases_lt}
use Rattle.std.proofs.lemmas.List.{get_or-drop, get_or-take, length-drop, length-take-le}
use Rattle.std.proofs.lemmas.Nat.Bits.{bit_at-lt, bit_at-pow_other, bit_at-pow_same, bit_at-zero}
use Rattle.std.proofs.lemmas.Nat.Bits.{bit_at_and, bit_at_not, bit_at_ones, bit_at_ones_above}
use Rattle.std.proofs.lemmas.Nat.Bits.{bit_at_xor, same_from_bits}
use Rattle.ascii_base.specs.Bytes.{IsOnSide}
use Rattle.ascii_base.specs.Runs.{StartsRun}
use Rattle.ascii_search.specs.declared.marked.Marked.{Marked}
use Rattle.ascii_search.specs.Marked.{IsHighest, IsLastRun, Shows, ShowsLast}
use Rattle.ascii_search.proofs.MarkedLemmas.{twice}
use Rattle.ascii_search.proofs.MasksLemmas.{shifted_down, shifted_from, shifted_here}

-- the bits of a mask before `n`
low_bit : (m n k : ℕ) → k < n → bit_at (bit_and m (2 ^ n - 1)) k ≡ bit_at m k
low_bit m n k l = bit_at_and m (2 ^ n - 1) k ∙ omega (arith, bit_at_ones n k l, bit_at-lt m k)

no_high_bit : (m n k : ℕ) → n ≤ k → bit_at (bit_and m (2 ^ n - 1)) k ≡ 0
no_high_bit m n k g = bit_at_and m (2 ^ n - 1) k ∙ omega (arith, bit_at_ones_above n k g)

-- the marks of all codes, from those that end at the highest bit
module _ (Is : ℕ → Type 0) (side : Bool) (text : List ℕ) (m : ℕ) (short : length text ≤ 64)
    (shows : Shows Is side text (64 - length text) m) where
  abbrev free : ℕ
  free = 64 - length text

  there : (P : ℕ → Type 0) (k : ℕ) → P (get_or text (free + k - free) 0)
      → P (get_or text (length text - length text + k) 0)
  there P k is = grind arith

  pub last_marks : ShowsLast Is side text (length text) (m / 2 ^ (64 - length text))
  last_marks = record {
    room = omega arith;
    set = λ k is.
        let old = shows.set (free + k) (sym (shifted_down m free k) ∙ is) in
        grind (arith, there);
    clear = λ k is few. there (IsOnSide Is (not side)) k (grind (arith, shifted_down));
  }

-- a piece goes on before n, and no code from there on has a mark
pub piece_on_back : (Is : ℕ → Type 0) (text : List ℕ) (at n s : ℕ)
    → ShowsLast Is true text at 0 → length text - at ≤ n → n ≤ length text
    → StartsRun Is false text n s → StartsRun Is false text (length text) s
piece_on_back Is text at n s shows few inside far = record {
  high = omega (arith, far.high, inside);
  run = λ k from before. elim (cases_lt k n) [
    | inl early ↦ far.run k from early
    | inr late ↦
        let place : length text - at + (k - (length text - at)) ≡ k = omega (arith, late, few) in
        grind (arith, bit_at-zero)
  ];
  stop = far.stop;
}

-- the marks that a run of marks starts with
abbrev pub run_starts : ℕ → ℕ
run_starts m = bit_and m (bit_not w64 (m * 2 ^ 1 % 2 ^ 64))

start_bit : (m k : ℕ) → k < 64
    → bit_at (run_starts m) k ≡ min (bit_at m k) (1 - bit_at (m * 2 ^ 1 % 2 ^ 64) k)
start_bit m k few = bit_at_and m (bit_not w64 (m * 2 ^ 1 % 2 ^ 64)) k
    ∙ ap (min (bit_at m k)) (bit_at_not w64 (m * 2 ^ 1 % 2 ^ 64) k (omega arith) few)

not_moved : (m : ℕ) → bit_at (m * 2 ^ 1 % 2 ^ 64) 0 ≡ 0
not_moved m = grind (arith, cases_eq, shifted_from, bit_at-lt)

module _ (m h : ℕ) (high : IsHighest m h) where
  -- from the highest mark down to the last that starts a run, all bits are set
  ones_down : (n : ℕ) → ((k : ℕ) → n < k → bit_at (run_starts m) k ≡ 0) → (d : ℕ) → n + d ≤ h
      → bit_at m (h - d) ≡ 1
  ones_down n none zero l = let same : h - 0 ≡ h = omega arith in ap (bit_at m) same ∙ high.set
  ones_down n none (suc d) l =
      let few : h - d < 64 = omega (arith, high.few) in
      let same : h - suc d ≡ h - d - 1 = omega arith in
      ap (bit_at m) same ∙ omega (
        arith,
        ones_down n none d (omega (arith, l)),
        none (h - d) (omega (arith, l)),
        start_bit m (h - d) few,
        shifted_here m 1 (h - d) few (omega (arith, l)),
        bit_at-lt m (h - d - 1),
      )

  pub some_start : run_starts m ≢ 0
  some_start none =
      let clear = λ (k : ℕ). ap (λ x. bit_at x k) none ∙ bit_at-zero k in
      let same : h - h ≡ 0 = omega arith in
      let one : bit_at m 0 ≡ 1 =
      ap (bit_at m) (sym same) ∙ ones_down 0 (λ k _. clear k) h (omega arith) in
      absurd (omega (arith, clear 0, start_bit m 0 (omega arith), not_moved m, one))

  -- without the highest bit
  pub without_highest : bit_xor m (1 * 2 ^ h % 2 ^ 64) ≡ bit_and m (2 ^ h - 1)
  without_highest = ap (bit_xor m) (mod-eq_of_lt small ∙ omega arith)
      ∙ same_from_bits (bit_xor m (2 ^ h)) (bit_and m (2 ^ h - 1)) (λ k. elim (cases_lt k h) [
        | inl l ↦ grind (arith, bit_at_xor, bit_at-pow_other, bit_at-lt, low_bit)
        | inr g ↦ elim (cases_eq k h) [
          | inl same ↦ grind (arith, bit_at_xor, bit_at-pow_same, no_high_bit, bit_and)
          | inr other ↦ bit_at_xor m (2 ^ h) k ∙ (grind (arith, bit_at-pow_other, no_high_bit))
        ]
      ])
    where
      small : 1 * 2 ^ h < 2 ^ 64
      small = omega (arith, pow-lt {i = h} {j = 64} high.few)

-- the last run on the side, at the last mark
module _ (Is : ℕ → Type 0) (side : Bool) (text : List ℕ) (at mask h : ℕ)
    (shows : ShowsLast Is side text at mask) (high : IsHighest mask h) where
  -- the position of the code that bit 0 is of
  abbrev first : ℕ
  first = length text - at

  inside : h < at
  inside = (shows.set h high.set).0

  at_place : (P : ℕ → Type 0) (k : ℕ) → first ≤ k → P (get_or text (first + (k - first)) 0)
      → P (get_or text k 0)
  at_place P k from is = grind arith

  pub gap_run_back : StartsRun Is (not side) text (length text) (first + h + 1)
  gap_run_back = record {
    high = omega (arith, inside, shows.room);
    run = λ k from before. at_place (IsOnSide Is (not side)) k (omega (arith, from))
        (grind (arith, inside));
    stop = grind (arith, not, twice);
  }

  -- a run that is marked from bit n on, and goes on before it
  run_before : (n s : ℕ) → n ≤ h → ((k : ℕ) → n ≤ k → k < h → bit_at mask k ≡ 1)
      → StartsRun Is side text (first + n) s → StartsRun Is side text (first + h + 1 - 1) s
  run_before n s near ones far = record {
    high = omega (arith, far.high, near);
    run = λ k after before. elim (cases_lt k (first + n)) [
      | inl early ↦ far.run k after early
      | inr late ↦ at_place (IsOnSide Is side) k (omega (arith, late)) (shows.set (k - first)
          (ones (k - first) (omega (arith, late)) (omega (arith, before, late)))).1
    ];
    stop = far.stop;
  }

  -- the marks before bit n are those of the text without what has the others
  kept_before : (n : ℕ) → n ≤ at
      → ShowsLast Is side (take (first + n) text) n (bit_and mask (2 ^ n - 1))
  kept_before n few = record {
    room = omega (arith, size);
    set = λ k is. elim (cases_lt k n) [
      | inl l ↦ (l, there (IsOnSide Is side) k l (shows.set k (sym (low_bit mask n k l) ∙ is)).1)
      | inr g ↦ absurd (omega (arith, is, no_high_bit mask n k g))
    ];
    clear = λ k is l. there (IsOnSide Is (not side)) k l
        (shows.clear k (sym (low_bit mask n k l) ∙ is) (omega (arith, l, few)));
  }
    where
      size : length (take (first + n) text) ≡ first + n
      size = length-take-le (first + n) text (omega (arith, few, shows.room))

      there : (P : ℕ → Type 0) (k : ℕ) → k < n → P (get_or text (first + k) 0)
          → P (get_or (take (first + n) text) (length (take (first + n) text) - n + k) 0)
      there P k l is = grind (arith, size, get_or-take)

  -- the marks of what comes before the last marked code
  pub cut_last : ShowsLast Is side (take (first + h + 1 - 1) text) h (bit_and mask (2 ^ h - 1))
  cut_last = grind (arith, bit_and mask (2 ^ h - 1), kept_before h (omega (arith, inside)), inside)

  -- the run starts at bit n, or goes on before it
  module _ (n : ℕ) (stop : IsHighest (run_starts mask) n) where
    set_here : bit_at mask n ≡ 1
    set_here = omega (arith, stop.set, start_bit mask n stop.few, bit_at-lt mask n)

    below : n ≤ h
    below = grind (arith, cases_lt, set_here)

    ones : (k : ℕ) → n ≤ k → k < h → bit_at mask k ≡ 1
    ones k from l =
        let same : k ≡ h - (h - k) = omega (arith, l) in
        ap (bit_at mask) same ∙ ones_down mask h high n stop.above (h - k) (omega (arith, from, l))

    pub far_run_back : n ≡ 0 → (s : ℕ) (none : Marked) → none.mask ≡ 0
        → StartsRun Is side text first s
        → IsLastRun Is side text (record { start = s; end = first + h + 1; marks = none })
    far_run_back whole s none empty far =
        let same : first ≡ first + 0 = omega arith in record {
          gap = gap_run_back;
          some = omega arith;
          run = run_before 0 s (omega arith) (λ k from l. ones k (omega (arith, whole)) l)
              (subst (λ i. StartsRun Is side text i s) same far);
          marks = λ some. absurd (some empty);
        }

    pub near_run_back : n ≢ 0 → IsLastRun Is side text (record {
      start = first + n;
      end = first + h + 1;
      marks = record { at = n; mask = bit_and mask (2 ^ n - 1) };
    })
    near_run_back later = record {
      gap = gap_run_back;
      some = omega arith;
      run = run_before n (first + n) below ones (grind (arith, not, clear, below, inside));
      marks = λ _. kept_before n (omega (arith, below, inside));
    }
      where
        clear : bit_at mask (n - 1) ≡ 0
        clear = omega (
          arith,
          stop.set,
          start_bit mask n stop.few,
          shifted_here mask 1 n stop.few (omega (arith, later)),
          bit_at-lt mask (n - 1),
        )

-- the last marks of the codes from a position on
module _ (Is : ℕ → Type 0) (side : Bool) (text : List ℕ) (at m start : ℕ)
    (room : start ≤ length text) (shows : ShowsLast Is side text at m) where
  abbrev left : ℕ
  left = length text - start

  size : length (drop start text) ≡ length text - start
  size = length-drop start text

  in_last : (P : ℕ → Type 0) (i k : ℕ) → i ≡ start + k → P (get_or text i 0)
      → P (get_or (drop start text) k 0)
  in_last P i k same is = grind (arith, get_or-drop)

  pub cut_after : length text - start < at
      → ShowsLast Is side (drop start text) (length text - start)
      (m / 2 ^ (at - (length text - start)))
  cut_after more =
      let inside = shows.room in record {
        room = omega (arith, size);
        set = λ k is.
            let old = shows.set (at - left + k) (sym (shifted_down m (at - left) k) ∙ is) in
            let short : at - left + k < at = old.0 in (
              omega (arith, short, more),
              in_last (IsOnSide Is side) (length text - at + (at - left + k))
                  (length (drop start text) - left + k) (omega (arith, size, more, room, inside))
                  old.1,
            );
        clear = λ k is short. in_last (IsOnSide Is (not side))
            (length text - at + (at - left + k)) (length (drop start text) - left + k)
            (omega (arith, size, more, room, inside)) (grind (arith, shifted_down));
      }
