-- Marks of the codes of a text, bit by bit.
use Rattle.std.proofs.Common.{◌≡◌, ◌≢◌, ℕ, zero, suc, ◌+◌, ◌-◌, ◌*◌, ◌/◌, ◌%◌, ◌^◌, ◌<◌, ◌≤◌, Bool}
use Rattle.std.proofs.Common.{true, false, not, List, length, get_or, drop, take, bit_and, bit_or}
use Rattle.std.proofs.Common.{sym, ap, ◌∙◌, subst, arith, inl, inr}
use Rattle.std.specs.Int.{bit_at}
use Rattle.std.specs.Int.Bits.{bit_xor}
use Rattle.std.proofs.lemmas.Bool.{cases_eq, cases_lt}
use Rattle.std.proofs.lemmas.List.{get_or-drop, get_or-take, length-drop, length-take-le, take_all}
use Rattle.std.proofs.lemmas.List.Elements.{All-get_or}
use Rattle.std.proofs.lemmas.Nat.Bits.{bit_at-lt, bit_at-suc, bit_at-zero, bit_at_and}
use Rattle.std.proofs.lemmas.Nat.Bits.{bit_at_lowest, bit_at_ones, bit_at_or, bit_at_xor}
use Rattle.std.specs.List.{All}
use Rattle.ascii_base.specs.Bytes.{IsFirstOf, IsOnSide}
use Rattle.ascii_base.specs.Lanes.{Marks}
use Rattle.ascii_base.specs.Runs.{EndsRun}
use Rattle.ascii_search.specs.declared.marked.Marked.{Marked}
use Rattle.ascii_search.specs.Marked.{AreLastMarks, AreMarks, IsFirstRun, IsLowest, Shows}
use Rattle.ascii_search.proofs.MasksLemmas.{shifted_from, shifted_here}

-- the other side of the other side
pub not_not : (Is : ℕ → Type 0) (side : Bool) (code : ℕ) → IsOnSide Is (not (not side)) code
    → IsOnSide Is side code
not_not Is side code is = grind arith

-- the number before one whose lowest bit is s: 1 below s, 0 at s, and the same bits above
pub prev_bits : (s m : ℕ) → bit_at m s ≡ 1 → ((k : ℕ) → k < s → bit_at m k ≡ 0)
    → ((k : ℕ) → k < s → bit_at (m - 1) k ≡ 1) × (bit_at (m - 1) s ≡ 0)
    × ((k : ℕ) → s < k → bit_at (m - 1) k ≡ bit_at m k)
prev_bits zero m set below = grind (arith, bit_at_lowest, above)
  where
    above : m % 2 ≡ 1 → (k : ℕ) → zero < k → bit_at (m - 1) k ≡ bit_at m k
    above odd zero l = absurd (omega (arith, l))
    above odd (suc i) l = grind (arith, bit_at-suc)
prev_bits (suc s) m set below =
    let even : m % 2 ≡ 0 = sym (bit_at_lowest m) ∙ below zero (omega arith) in
    let up : bit_at (m / 2) s ≡ 1 = sym (bit_at-suc m s) ∙ set in
    let some : m / 2 ≢ 0 = grind (arith, bit_at-zero) in
    let half : (m - 1) / 2 ≡ m / 2 - 1 = omega (arith, even, some) in
    let high = prev_bits s (m / 2) up
    (λ k l. sym (bit_at-suc m k) ∙ below (suc k) (omega (arith, l))) in (
      ones (bit_at_lowest (m - 1) ∙ omega (arith, even, some)) half high.0,
      bit_at-suc (m - 1) s ∙ ap (λ x. bit_at x s) half ∙ high.1,
      above half high.2,
    )
  where
    ones : bit_at (m - 1) 0 ≡ 1 → (m - 1) / 2 ≡ m / 2 - 1
        → ((k : ℕ) → k < s → bit_at (m / 2 - 1) k ≡ 1) → (k : ℕ) → k < suc s → bit_at (m - 1) k ≡ 1
    ones first half high zero l = first
    ones first half high (suc i) l = grind (arith, bit_at-suc)

    above : (m - 1) / 2 ≡ m / 2 - 1 → ((k : ℕ) → s < k → bit_at (m / 2 - 1) k ≡ bit_at (m / 2) k)
        → (k : ℕ) → suc s < k → bit_at (m - 1) k ≡ bit_at m k
    above half high zero l = absurd (omega (arith, l))
    above half high (suc i) l = grind (arith, bit_at-suc)

-- a mask without marks says nothing
pub no_marks : (Is : ℕ → Type 0) (side : Bool) (marks : Marked) (text : List ℕ) → marks.mask ≡ 0
    → AreMarks Is side marks text × AreLastMarks Is side marks text
no_marks Is side marks text none = (λ some. absurd (some none), λ some. absurd (some none))

-- a code on a side is not on the other
pub twice : (Is : ℕ → Type 0) (side : Bool) (code : ℕ) → IsOnSide Is side code
    → IsOnSide Is (not (not side)) code
twice Is side code is = grind arith

-- a run of one code and more, after what is not of the run
pub run_from : (Is : ℕ → Type 0) (side : Bool) (text : List ℕ) (s e : ℕ) → s < length text
    → EndsRun Is (not side) text 0 s → EndsRun Is side text (s + 1) e → EndsRun Is side text s e
run_from Is side text s e some gap more = grind (arith, cases_eq, not_not)

-- the first run on the side, at the first mark
module _ (Is : ℕ → Type 0) (side : Bool) (text : List ℕ) (at mask p : ℕ)
    (shows : Shows Is side text at mask) (low : IsLowest mask p) where
  -- the mask with all bits before its first mark
  abbrev filled : ℕ
  filled = bit_or mask (mask - 1)

  pub starts : at ≤ p
  starts = (shows.set p low.set).0

  prev : ((k : ℕ) → k < p → bit_at (mask - 1) k ≡ 1) × (bit_at (mask - 1) p ≡ 0)
      × ((k : ℕ) → p < k → bit_at (mask - 1) k ≡ bit_at mask k)
  prev = prev_bits p mask low.set low.below

  filled_low : (k : ℕ) → k ≤ p → bit_at filled k ≡ 1
  filled_low k l = elim (cases_eq k p) [
    | inl same ↦ grind (arith, bit_at_or)
    | inr other ↦
        let before : k < p = omega (arith, l, other) in
        bit_at_or mask (mask - 1) k ∙ omega (arith, low.below k before, prev.0 k before)
  ]

  filled_high : (k : ℕ) → p ≤ k → bit_at filled k ≡ bit_at mask k
  filled_high k g = elim (cases_eq k p) [
    | inl same ↦ grind (arith, filled_low)
    | inr other ↦
        bit_at_or mask (mask - 1) k ∙ omega (arith, prev.2 k (omega (arith, g, other)))
  ]

  at_place : (P : ℕ → Type 0) (k : ℕ) → P (get_or text (at + k - at) 0) → P (get_or text k 0)
  at_place P k is = grind arith

  pub gap_run : EndsRun Is (not side) text 0 (p - at)
  gap_run = record {
    low = omega arith;
    high = omega (arith, low.few, shows.room);
    run = λ k from before. at_place (IsOnSide Is (not side)) k (grind arith);
    stop = λ _. twice Is side _ (shows.set p low.set).2;
  }

  -- without its first mark, the mask is that of the codes after the first marked one
  pub cut_first : Shows Is side (drop (p - at + 1) text) (p + 1) (bit_and mask (mask - 1))
  cut_first =
      let from = starts in record {
        room = omega (arith, shows.room, length-drop (p - at + 1) text, from, low.few);
        set = λ k is.
            let both = bit_at_and mask (mask - 1) k in
            let old = shows.set k (omega (arith, is, both, bit_at-lt mask k)) in
            let past : p < k = elim (cases_lt p k) [
              | inl l ↦ l
              | inr g ↦ elim (cases_eq k p) [
                | inl same ↦ absurd (omega (arith, is, both, prev.1, ap (bit_at (mask - 1)) same))
                | inr other ↦ grind arith
              ]
            ] in
            (omega (arith, past), old.1, after_place (IsOnSide Is side) k past old.2);
        clear = λ k is past few. after_place (IsOnSide Is (not side)) k (omega (arith, past))
            (shows.clear k
            (omega (arith, is, bit_at_and mask (mask - 1) k, prev.2 k (omega (arith, past))))
            (omega (arith, past, from)) few);
      }
    where
      after_place : (P : ℕ → Type 0) (k : ℕ) → p < k → P (get_or text (k - at) 0)
          → P (get_or (drop (p - at + 1) text) (k - (p + 1)) 0)
      after_place P k past is = grind (arith, starts, get_or-drop)

  -- a run that is marked up to q, and goes on there
  run_on : (q e : ℕ) → p < q → ((k : ℕ) → p ≤ k → k < q → bit_at mask k ≡ 1)
      → EndsRun Is side text (q - at) e → EndsRun Is side text (p - at) e
  run_on q e order ones far =
      let from = starts in record {
        low = omega (arith, far.low, order, from);
        high = far.high;
        run = λ k after before. elim (cases_lt k (q - at)) [
          | inl near ↦ at_place (IsOnSide Is side) k (shows.set (at + k)
              (ones (at + k) (omega (arith, after, from)) (omega (arith, near)))).2
          | inr past ↦ far.run k past before
        ];
        stop = far.stop;
      }

  -- the run goes on where the marks end
  pub far_run : (e : ℕ) (none : Marked) → none.mask ≡ 0 → filled ≡ 2 ^ 64 - 1
      → EndsRun Is side text (64 - at) e
      → IsFirstRun Is side text (record { start = p - at; end = e; marks = none })
  far_run e none empty full far = record {
    gap = gap_run;
    some = omega (arith, low.few, shows.room, starts);
    run = run_on 64 e low.few (λ k from few. sym (filled_high k from)
        ∙ (ap (λ m. bit_at m k) full ∙ bit_at_ones 64 k few)) far;
    marks = λ some. absurd (some empty);
  }

  -- the run ends at q
  module _ (q : ℕ) (stop : IsLowest (filled + 1) q) where
    next : ((k : ℕ) → k < q → bit_at (filled + 1 - 1) k ≡ 1) × (bit_at (filled + 1 - 1) q ≡ 0)
        × ((k : ℕ) → q < k → bit_at (filled + 1 - 1) k ≡ bit_at (filled + 1) k)
    next = prev_bits q (filled + 1) stop.set stop.below

    back : (k : ℕ) → bit_at (filled + 1 - 1) k ≡ bit_at filled k
    back k = let same : filled + 1 - 1 ≡ filled = omega arith in ap (λ m. bit_at m k) same

    order : p < q
    order = elim (cases_lt p q) [
      | inl l ↦ l
      | inr g ↦ absurd (omega (arith, next.1, back q, filled_low q g))
    ]

    pub ends : at ≤ q
    ends = omega (arith, starts, order)

    at_stop : bit_at mask q ≡ 0
    at_stop = sym (filled_high q (omega (arith, order))) ∙ (sym (back q) ∙ next.1)

    in_rest : (P : ℕ → Type 0) (k : ℕ) → q ≤ k → P (get_or text (k - at) 0)
        → P (get_or (drop (q - at) text) (k - q) 0)
    in_rest P k g is = grind (arith, ends, get_or-drop)

    kept : Shows Is side (drop (q - at) text) q (bit_and mask (filled + 1))
    kept = record {
      room = omega (arith, shows.room, length-drop (q - at) text, ends, stop.few);
      set = λ k is.
          let both = bit_at_and mask (filled + 1) k in
          let old = shows.set k (omega (arith, is, both, bit_at-lt mask k)) in
          let from : q ≤ k = grind (arith, cases_lt) in
          (from, old.1, in_rest (IsOnSide Is side) k from old.2);
      clear = λ k is from few. in_rest (IsOnSide Is (not side)) k from (shows.clear k
          (elim (cases_eq k q) [
            | inl same ↦ ap (bit_at mask) same ∙ at_stop
            | inr other ↦
                let past : q < k = omega (arith, from, other) in
                omega (
                  arith,
                  is,
                  bit_at_and mask (filled + 1) k,
                  next.2 k past,
                  back k,
                  filled_high k (omega (arith, past, order)),
                )
          ]) (omega (arith, from, ends)) few);
    }

    pub near_run : IsFirstRun Is side text (record {
      start = p - at;
      end = q - at;
      marks = record { at = q; mask = bit_and mask (filled + 1) };
    })
    near_run = record {
      gap = gap_run;
      some = omega (arith, low.few, shows.room, starts);
      run = run_on q (q - at) order (λ k from before. sym (filled_high k from)
          ∙ (sym (back k) ∙ next.0 k before)) (grind (arith, at_stop, ends));
      marks = λ _. kept;
    }

-- the marks of the first codes, from those of the first n and of the last n among them
module _ (Is : ℕ → Type 0) (text : List ℕ) (n count first second : ℕ) (lanes : n + n ≤ 64)
    (few : n ≤ count) (most : count ≤ n + n) (room : count ≤ length text)
    (low : Marks Is text 0 n first) (high : Marks Is text (count - n) n second) where
  abbrev here : ℕ
  here = first * 2 ^ (64 - count) % 2 ^ 64

  abbrev there : ℕ
  there = second * 2 ^ (64 - n) % 2 ^ 64

  moved : (P : ℕ → Type 0) (i k : ℕ) → i ≡ k → P (get_or text i 0) → P (get_or text k 0)
  moved P i k same is = subst (λ j. P (get_or text j 0)) same is

  pub outside_of_two : Shows Is false text (64 - count) (bit_or here there)
  outside_of_two = record {
    room = omega (arith, room);
    set = λ k is. elim (cases_eq (bit_at here k) 1) [
      | inl one ↦ grind (arith, shifted_from first (64 - count) k one, moved)
      | inr other ↦
          let one : bit_at there k ≡ 1 = grind (arith, bit_at_or, bit_at-lt) in
          let up = shifted_from second (64 - n) k one in
          grind (arith, moved)
    ];
    clear = grind (arith, cases_lt, moved, shifted_here, bit_at_or);
  }

-- the marks of the other side
module _ (Is : ℕ → Type 0) (text : List ℕ) (at m : ℕ) (few : at < 64)
    (shows : Shows Is false text at m) where
  abbrev all : ℕ
  all = (2 ^ 64 - 1) * 2 ^ at % 2 ^ 64

  turned : (k : ℕ) → at ≤ k → k < 64 → bit_at (bit_xor m all) k ≡ 1 - bit_at m k
  turned k from short = bit_at_xor m all k
      ∙ omega (
        arith,
        shifted_here (2 ^ 64 - 1) at k short from,
        bit_at_ones 64 (k - at)
            (omega (arith, short)),
        bit_at-lt m k,
      )

  pub inside_of_outside : Shows Is true text at (bit_xor m all)
  inside_of_outside = record {
    room = shows.room;
    set = λ k is. elim (cases_eq (bit_at m k) 1) [
      | inl one ↦ grind (arith, turned)
      | inr none ↦ grind (arith, bit_at_xor, bit_at-lt, bit_at-lt m k, shifted_from (2 ^ 64 - 1))
    ];
    clear = grind (arith, turned, bit_at-lt);
  }

-- a piece goes on at n, and no code before has a mark
pub piece_on : (Is : ℕ → Type 0) (text : List ℕ) (at n e : ℕ) → Shows Is true text at 0
    → n ≤ 64 - at → EndsRun Is false text n e → EndsRun Is false text 0 e
piece_on Is text at n e shows few far = record {
  low = omega arith;
  high = far.high;
  run = λ k from before. elim (cases_lt k n) [
    | inl near ↦
        let place : at + k - at ≡ k = omega arith in
        grind (arith, bit_at-zero)
    | inr past ↦ far.run k past before
  ];
  stop = far.stop;
}

-- the end of a piece that goes on at a position, by the codes from there on
module _ (Is : ℕ → Type 0) (text : List ℕ) (from : ℕ) (room : from ≤ length text) where
  abbrev part : List ℕ
  part = take (length text - from) (drop from text)

  whole : part ≡ drop from text
  whole = take_all (length text - from) (drop from text) (omega (arith, length-drop from text))

  size : length part ≡ length text - from
  size = ap length whole ∙ length-drop from text

  in_text : (P : ℕ → Type 0) (i k : ℕ) → from + i ≡ k → P (get_or part i 0)
      → P (get_or text k 0)
  in_text P i k same is = subst P (grind (arith, whole, get_or-drop)) is

  pub ends_at : (e : ℕ) → IsFirstOf Is part 0 (length part) e
      → EndsRun Is false text from (from + e)
  ends_at e found = record {
    low = omega arith;
    high = omega (arith, found.inside, size);
    run = λ k after before. in_text (λ c. ¬ (Is c)) (k - from) k (omega (arith, after))
        (found.least (k - from) (omega arith) (omega (arith, after, before)));
    stop = λ _. in_text Is e (from + e) (omega arith) found.one;
  }

  pub ends_past : All (λ c. ¬ (Is c)) part → EndsRun Is false text from (length text)
  ends_past all = record {
    low = room;
    high = omega arith;
    run = λ k after before. in_text (λ c. ¬ (Is c)) (k - from) k (omega (arith, after))
        (All-get_or (λ c. ¬ (Is c)) part (k - from) 0 (omega (arith, after, before, size)) all);
    stop = λ more. absurd (omega (arith, more));
  }

-- the marks of the first n codes
module _ (Is : ℕ → Type 0) (side : Bool) (text : List ℕ) (at m n : ℕ) (room : n ≤ length text)
    (shows : Shows Is side text at m) where
  first_size : length (take n text) ≡ n
  first_size = length-take-le n text room

  in_first : (P : ℕ → Type 0) (i k : ℕ) → i ≡ k → k < n → P (get_or text i 0)
      → P (get_or (take n text) k 0)
  in_first P i k same few is = subst P (grind (arith, get_or-take)) is

  pub cut_before : at + n < 64
      → Shows Is side (take n text) (64 - n) (m * 2 ^ (64 - n - at) % 2 ^ 64)
  cut_before short = record {
    room = omega (arith, first_size);
    set = λ k is.
        let up = shifted_from m (64 - n - at) k is in
        let old = shows.set (k - (64 - n - at)) up.2 in
        let from : at ≤ k - (64 - n - at) = old.0 in
        let past : 64 - n - at ≤ k = up.0 in
        let few : k < 64 = up.1 in (
          omega (arith, from, past, short),
          few,
          in_first (IsOnSide Is side) (k - (64 - n - at) - at) (k - (64 - n))
              (omega (arith, short, past, from)) (omega (arith, few, from, past, short)) old.2,
        );
    clear = λ k is from few. in_first (IsOnSide Is (not side)) (k - (64 - n - at) - at)
        (k - (64 - n)) (omega (arith, short, from)) (omega (arith, few, from, short))
        (grind (arith, shifted_here));
  }
