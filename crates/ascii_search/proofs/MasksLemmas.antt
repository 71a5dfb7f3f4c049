-- What masks say of positions, and what the joined mask of two ends says.
use Rattle.std.proofs.Common.{◌≡◌, ◌≢◌, ℕ, ◌+◌, ◌-◌, ◌*◌, ◌/◌, ◌%◌, ◌^◌, ◌<◌, ◌≤◌, Bool, false}
use Rattle.std.proofs.Common.{cond, List, map, length, get_or, take, drop, bit_and, bit_or, sym, ap}
use Rattle.std.proofs.Common.{◌∙◌, refl, subst, arith, inl, inr, pow_pos, shr-shr, Option, None}
use Rattle.std.proofs.Common.{Some, true, ◌&&◌, ◌||◌, eqb, ◌↔◌, not, w8, w64}
use Rattle.std.specs.Int.{bit_at}
use Rattle.std.proofs.lemmas.Bool.{cases_lt, cases_eq, eq-eqb, eqb-true, or_cases}
use Rattle.std.proofs.lemmas.List.{length-map, get_or-map, get_or_past, get_or-drop, length-drop}
use Rattle.std.proofs.lemmas.List.{take_all, drop-map, take-map}
use Rattle.std.proofs.lemmas.Nat.Bits.{bit_at-zero, bit_at-lt, bit_at_or, bit_at_above}
use Rattle.std.proofs.lemmas.Nat.Bits.{bit_at_cat_low, bit_at_cat_high, bit_at-trailing_zeros}
use Rattle.std.proofs.lemmas.Simd.{bit_mask_l, get_or-chunk, get_or-replicate, get_or-zip2}
use Rattle.std.proofs.lemmas.Simd.{length-chunk, length-replicate, length-zip2, mask_l-mod}
use Rattle.std.proofs.lemmas.Simd.{tops_compared}
use lib.Lanes.{chunk, mask_l, top, zip2}
use lib.ListN.{replicate}
use Rattle.std.specs.List.{slice_range}
use Rattle.std.proofs.lemmas.Bool.Decides.{nat_tests}
use Rattle.memchr.specs.Find.{FindsNeedle, IsFirst, IsFirstByte, Nowhere, OccursAt, is_byte}
use Rattle.memchr.specs.Find.{is_byte2}
use Rattle.memchr.proofs.lemmas.FindLemmas.{IsFirst-agree, IsFirst-wider, OccursAt-byte}
use Rattle.memchr.proofs.lemmas.FindLemmas.{byte-OccursAt}
use Rattle.memchr.proofs.lemmas.MatchLemmas.{OccursAt-from_part, OccursAt-part}
use Rattle.ascii_base.specs.Case.{lower_image, upper_image}
use Rattle.ascii_search.specs.Masks.{FindsBy, HasBit, HasByte, HasPart, IsCandidate}
use Rattle.ascii_search.specs.Masks.{MarksCandidates, OccursBy, itself}

-- the bits of a mask that is shifted up in a word
module _ (m s k : ℕ) where
  in_word : k < 64 → bit_at (m * 2 ^ s % 2 ^ 64) k ≡ bit_at (m * 2 ^ s + 0) k
  in_word few = grind (arith, bit_at_cat_low (m * 2 ^ s / 2 ^ 64) 64 (m * 2 ^ s % 2 ^ 64) k few)

  pub shifted_here : k < 64 → s ≤ k → bit_at (m * 2 ^ s % 2 ^ 64) k ≡ bit_at m (k - s)
  shifted_here few high = in_word few ∙ bit_at_cat_high m s 0 k (pow_pos s) high

  pub shifted_from : HasBit (m * 2 ^ s % 2 ^ 64) k → (s ≤ k) × (k < 64) × HasBit m (k - s)
  shifted_from is = elim (cases_lt k 64) [
    | inl few ↦ grind (arith, cases_lt, in_word, bit_at_cat_low, bit_at-zero, shifted_here)
    | inr g ↦ absurd (omega (arith, is, bit_at_above (m * 2 ^ s % 2 ^ 64) 64 k (omega arith) g))
  ]

-- the bits of a mask that is shifted down
pub shifted_down : (m s k : ℕ) → bit_at (m / 2 ^ s) k ≡ bit_at m (s + k)
shifted_down m s k = ap (λ x. x % 2) (shr-shr m s k)

-- a mask has no bit where it has none when it is shifted down
pub none_below : (m s n : ℕ) → Nowhere (HasBit (m / 2 ^ s)) 0 n → Nowhere (HasBit m) s (s + n)
none_below m s n none k from to is = grind (arith, shifted_down m s (k - s))

-- a mask that is 0 has no bit
pub no_bit : (m i j : ℕ) → m ≡ 0 → Nowhere (HasBit m) i j
no_bit m i j none k from to is = omega (arith, is, ap (λ x. bit_at x k) none, bit_at-zero k)

-- a bit of a word
pub within_word : (m k : ℕ) → m < 2 ^ 64 → HasBit m k → k < 64
within_word m k word is = elim (cases_lt k 64) [
  | inl few ↦ few
  | inr g ↦ absurd (omega (arith, is, bit_at_above m 64 k word g))
]

-- the bits of two masks
or_left : (a b k : ℕ) → HasBit a k → HasBit (bit_or a b) k
or_left a b k is = omega (arith, is, bit_at_or a b k, bit_at-lt b k)

or_right : (a b k : ℕ) → HasBit b k → HasBit (bit_or a b) k
or_right a b k is = omega (arith, is, bit_at_or a b k, bit_at-lt a k)

or_one : (a b k : ℕ) → HasBit (bit_or a b) k → bit_at a k ≢ 1 → HasBit b k
or_one a b k is apart = omega (arith, is, bit_at_or a b k, bit_at-lt a k, apart)

-- the masks of the first and of the last n positions, of at most 64, in one
module _ (image : ℕ → ℕ) (hay needle : List ℕ) (n last first second : ℕ) (near : last ≤ n) (few : last + n ≤ 64)
    (low : MarksCandidates image hay needle 0 n first) (high : MarksCandidates image hay needle last n second)
  where
    abbrev up : ℕ
    up = second * 2 ^ last % 2 ^ 64

    here : (k : ℕ) → last ≤ k → last + (k - last) ≡ 0 + k
    here k from = omega arith

    pub joined : MarksCandidates image hay needle 0 (last + n)
        (bit_or first (second * 2 ^ last % 2 ^ 64))
    joined = record {
      each = grind (arith, cases_lt, or_left, or_right, shifted_here, here);
      set = λ k is. elim (cases_eq (bit_at first k) 1) [
        | inl one ↦ let h = low.set k one in let short : k < n = h.0 in (omega arith, h.1)
        | inr other ↦
            let up_one = shifted_from second last k (or_one first up k is other) in
            grind (arith, here)
      ];
    }

-- no position between two bits of a mask that has none between them
pub nowhere_marked : (image : ℕ → ℕ) (hay needle : List ℕ) (start n mask i j : ℕ)
    → MarksCandidates image hay needle start n mask → j ≤ n
    → Nowhere (HasBit mask) i j → Nowhere (OccursBy image hay needle) (start + i) (start + j)
nowhere_marked image hay needle start n mask i j marks inside none k from to here =
    let same : k ≡ start + (k - start) = omega arith in
    grind (arith, here)

-- no position of a block without a mark
pub nowhere_in_block : (image : ℕ → ℕ) (hay needle : List ℕ) (start mask : ℕ)
    → MarksCandidates image hay needle start 64 mask → mask ≡ 0
    → Nowhere (OccursBy image hay needle) start (start + 64)
nowhere_in_block image hay needle start mask marks none k from to =
    nowhere_marked image hay needle start 64 mask 0 64 marks (omega arith) (no_bit mask 0 64 none) k
    (omega (arith, from)) to

-- nowhere up to a position and nowhere from it on
pub nowhere_in_both : (P : ℕ → Type 0) (i j k : ℕ) → Nowhere P i j → Nowhere P j k → Nowhere P i k
nowhere_in_both P i j k near far at from to here = grind (arith, here, cases_lt)

-- nowhere but at one position, and not there
pub nowhere_at : (P : ℕ → Type 0) (i : ℕ) → ¬ (P i) → Nowhere P i (i + 1)
nowhere_at P i not k from to here = grind (arith, not, here)

-- the lanes of a comparison, and of two comparisons
abbrev lane_of : Bool → ℕ
lane_of b = cond b 255 0

both_lanes : (a b : Bool) → bit_and (lane_of a) (lane_of b) ≡ lane_of (a && b)
both_lanes a b = grind arith

either_lane : (a b : Bool) → bit_or (lane_of a) (lane_of b) ≡ lane_of (a || b)
either_lane a b = grind arith

top_lane : (b : Bool) → top 7 (lane_of b) ≡ b
top_lane b = grind arith

set_lane : (b : Bool) → ◌≡◌ {A = ℕ} (cond b 1 0) 1 → b ≡ true
set_lane b is = grind arith

-- `lower` and `upper` are the bytes that count as byte `at` of the needle
abbrev pub AreCases : (ℕ → ℕ) → List ℕ → ℕ → ℕ → ℕ → Type 0
AreCases image needle at lower upper =
    (x : ℕ) → (is_byte2 lower upper x ≡ true) ↔ (image x ≡ image (get_or needle at 0))

-- where a needle occurs, the text has each of its bytes
pub reads_byte : (image : ℕ → ℕ) (hay needle : List ℕ) (start k at from lower upper : ℕ)
    → AreCases image needle at lower upper → OccursBy image hay needle (start + k)
    → at < length needle → from ≡ start + at
    → is_byte2 lower upper (get_or hay (from + k) 0) ≡ true
reads_byte image hay needle start k at from lower upper cases occurs inside same =
    grind (arith, inside)

-- a byte that passes the test is that of the needle
pub has_byte : (image : ℕ → ℕ) (hay needle : List ℕ) (start k at from lower upper : ℕ)
    → AreCases image needle at lower upper → from ≡ start + at
    → is_byte2 lower upper (get_or hay (from + k) 0) ≡ true
    → HasByte image hay needle (start + k) at
has_byte image hay needle start k at from lower upper cases same is = grind arith

-- the candidates of a needle among positions at which it fits: three of its bytes are there
module _ (image : ℕ → ℕ) (hay needle : List ℕ) (start n : ℕ) (few : n ≤ 64)
    (room : start + n + length needle ≤ length hay + 1) where
  abbrev lanes_of : ℕ → ℕ → List ℕ
  lanes_of from on = zip2 (λ a b. cond (eqb a b) 255 0) (chunk from n hay) (replicate n on)

  length_of : (from on : ℕ) → from + n ≤ length hay → length (lanes_of from on) ≡ n
  length_of from on inside = grind (arith, inside, length-chunk, length-zip2, length-replicate)

  lane_is : (from on k : ℕ) → from + n ≤ length hay → k < n
      → get_or (lanes_of from on) k 0 ≡ lane_of (is_byte on (get_or hay (from + k) 0))
  lane_is from on k inside l =
      let long = length-chunk from n hay inside in
      get_or-zip2 _ (chunk from n hay) (replicate n on) k 0 0 0 (omega (arith, long))
      (omega (arith, length-replicate n on))
      ∙ (λ i. cond (eqb (get_or-chunk from n hay k 0 l i) (get_or-replicate n k on 0 l i)) 255 0)

  -- the lanes that are one of two bytes
  abbrev lanes : ℕ → ℕ → ℕ → List ℕ
  lanes from lower upper = zip2 bit_or (lanes_of from lower) (lanes_of from upper)

  length_lanes : (from lower upper : ℕ) → from + n ≤ length hay
      → length (lanes from lower upper) ≡ n
  length_lanes from lower upper inside = grind (arith, inside, length-zip2, bit_or, length_of)

  lane : (from lower upper k : ℕ) → from + n ≤ length hay → k < n
      → get_or (lanes from lower upper) k 0
      ≡ lane_of (is_byte2 lower upper (get_or hay (from + k) 0))
  lane from lower upper k inside l =
      get_or-zip2 bit_or (lanes_of from lower) (lanes_of from upper) k 0 0 0
      (omega (arith, length_of from lower inside)) (omega (arith, length_of from upper inside))
      ∙ (λ i. bit_or (lane_is from lower k inside l i) (lane_is from upper k inside l i))
      ∙ either_lane _ _

  module _ (first middle last a0 a1 b0 b1 c0 c1 : ℕ) (in_a : first + n ≤ length hay)
      (in_b : middle + n ≤ length hay) (in_c : last + n ≤ length hay) where
    abbrev two : List ℕ
    two = zip2 bit_and (lanes first a0 a1) (lanes middle b0 b1)

    abbrev three : List ℕ
    three = zip2 bit_and two (lanes last c0 c1)

    length_two : length two ≡ n
    length_two = grind (arith, length-zip2, bit_and, length_lanes)

    length_three : length three ≡ n
    length_three = grind (arith, length-zip2, bit_and, length_two, length_lanes)

    abbrev has : ℕ → Bool
    has k = is_byte2 a0 a1 (get_or hay (first + k) 0) && is_byte2 b0 b1 (get_or hay (middle + k) 0)
        && is_byte2 c0 c1 (get_or hay (last + k) 0)

    bit : (k : ℕ) → k < n → bit_at (mask_l (map (top 7) three) % 2 ^ 64) k ≡ cond (has k) 1 0
    bit k l = ap (λ m. bit_at m k) (mask_l-mod (map (top 7) three) 64
        (omega (arith, length-map three (top 7), length_three)))
        ∙ bit_mask_l (map (top 7) three) k
        ∙ ap (λ b. cond b 1 0) (get_or-map (top 7) three k 0 false (omega (arith, length_three))
        ∙ ap (top 7) (get_or-zip2 bit_and two (lanes last c0 c1) k 0 0 0
        (omega (arith, length_two)) (omega (arith, length_lanes last c0 c1 in_c))
        ∙ (λ i. bit_and ((get_or-zip2 bit_and (lanes first a0 a1) (lanes middle b0 b1) k 0 0 0
        (omega (arith, length_lanes first a0 a1 in_a))
        (omega (arith, length_lanes middle b0 b1 in_b))
        ∙ (λ j. bit_and (lane first a0 a1 k in_a l j) (lane middle b0 b1 k in_b l j))
        ∙ both_lanes _ _) i) (lane last c0 c1 k in_c l i)) ∙ both_lanes _ _) ∙ top_lane _)

    past : (k : ℕ) → n ≤ k → bit_at (mask_l (map (top 7) three) % 2 ^ 64) k ≡ 0
    past k g = ap (λ m. bit_at m k) (mask_l-mod (map (top 7) three) 64
        (omega (arith, length-map three (top 7), length_three)))
        ∙ bit_mask_l (map (top 7) three) k
        ∙ ap (λ b. cond b 1 0) (get_or_past (map (top 7) three) k false
        (omega (arith, length-map three (top 7), length_three)))

    pub marks_of_three : ((k : ℕ) → k < n → OccursBy image hay needle (start + k) → has k ≡ true)
        → ((k : ℕ) → k < n → has k ≡ true → IsCandidate image hay needle (start + k))
        → MarksCandidates image hay needle start n (mask_l (map (top 7) three) % 2 ^ 64)
    marks_of_three there found = grind (arith, bit, cases_lt, set_lane, past)

-- a part of the needle and the bytes of the text there: the mask has a bit for each one that differs
module _ (hay needle : List ℕ) (k from n : ℕ) (few : n ≤ 64)
    (fits : k + length needle ≤ length hay) (room : from + n ≤ length needle) where
  abbrev differ : ℕ → ℕ → Bool
  differ a b = not (eqb a b)

  abbrev there : List ℕ
  there = chunk (k + from) n hay

  abbrev wanted : List ℕ
  wanted = chunk from n needle

  abbrev apart : List Bool
  apart = zip2 differ there wanted

  length_there : length there ≡ n
  length_there = length-chunk (k + from) n hay (omega (arith, fits, room))

  length_wanted : length wanted ≡ n
  length_wanted = length-chunk from n needle room

  length_apart : length apart ≡ n
  length_apart = grind (arith, length-zip2, length_there, length_wanted)

  mask : mask_l (map (top 7) (zip2 (λ a b. cond (differ a b) 255 0) there wanted)) % 2 ^ 64
      ≡ mask_l apart
  mask = ap (λ l. mask_l l % 2 ^ 64) (tops_compared w8 differ there wanted)
      ∙ mask_l-mod apart 64 (omega (arith, length_apart))

  byte_apart : (i : ℕ) → i < n → get_or apart i false
      ≡ differ (get_or hay (k + from + i) 0) (get_or needle (from + i) 0)
  byte_apart i l = grind (arith, get_or-zip2, length_there, length_wanted, get_or-chunk)

  none_apart : mask_l apart ≡ 0 → HasPart hay needle k from n
  none_apart none j low high =
      let i = j - from in
      let l : i < n = omega arith in
      let here : from + i ≡ j = omega arith in
      grind (arith, byte_apart i l, bit_mask_l apart i, bit_at-zero i, eqb-true, here)

  part_apart : HasPart hay needle k from n → (i : ℕ) → get_or apart i false ≡ true → ⊥
  part_apart part i is = grind (arith, not, eq-eqb, byte_apart, past, get_or_past, length_apart)

  all_same : HasPart hay needle k from n → mask_l apart ≡ 0
  all_same part = elim (cases_eq (mask_l apart) 0) [
    | inl none ↦ none
    | inr some ↦
        let lowest = bit_at-trailing_zeros w64 (mask_l apart) (omega (arith, some))
        (omega (arith, mask)) in
        absurd (part_apart part _ (set_lane _ (sym (bit_mask_l apart _) ∙ lowest.1)))
  ]

  pub part_compared :
      (eqb (mask_l (map (top 7) (zip2 (λ a b. cond (differ a b) 255 0) there wanted)) % 2 ^ 64) 0
      ≡ true) ↔ HasPart hay needle k from n
  part_compared = grind (arith, none_apart, mask, eqb-true, eq-eqb, all_same)

module _ (image : ℕ → ℕ) (hay needle : List ℕ) where
  -- a needle is nowhere that it does not fit
  pub all_positions : (n mask : ℕ) → n ≤ 64 → length hay + 1 ≤ n + length needle
      → MarksCandidates image hay needle 0 n mask → MarksCandidates image hay needle 0 64 mask
  all_positions n mask few most marks = grind (arith, mask)

  -- a needle of at most three bytes is at each candidate
  pub exact : (k : ℕ) → 0 < length needle → length needle ≤ 3 → IsCandidate image hay needle k
      → OccursBy image hay needle k
  exact k some few candidate = grind (arith, cases_eq)

  -- a needle is at a candidate only
  pub candidate_at : (k : ℕ) → 0 < length needle → OccursBy image hay needle k
      → IsCandidate image hay needle k
  candidate_at k some occurs = grind arith

  -- the first of all positions, of which none is before `start`, and none from `end` on fits
  pub found_first : (start end : ℕ) (found : Option ℕ)
      → (found ≡ None → length hay + 1 ≤ end + length needle)
      → Nowhere (OccursBy image hay needle) 0 start → IsFirst (OccursBy image hay needle) start end found
      → FindsBy image hay needle found
  found_first start end None all before none =
      nowhere_in_both _ 0 start _ before (λ k from to occurs. let fits = occurs.fits in
      none k from (omega (arith, fits, all refl)) occurs)
  found_first start end (Some p) all before found =
      let fits = found.1.fits in grind (arith, nowhere_in_both _ 0 start p before found.0.before)

-- ---- when only the same bytes count as the same

module _ (hay needle : List ℕ) where
  -- a needle of at most two parts is where both are
  pub ends_occur : (k n last : ℕ) → k + length needle ≤ length hay → last + n ≡ length needle
      → last ≤ n → HasPart hay needle k 0 n → HasPart hay needle k last n → OccursBy itself hay needle k
  ends_occur k n last fits whole near front back = grind (arith, cases_lt)

  pub part_of : (k from n : ℕ) → from + n ≤ length needle → OccursBy itself hay needle k
      → HasPart hay needle k from n
  part_of k from n inside occurs j low high = occurs.reads j (omega (arith, inside))

  from_start : (j : ℕ) → 0 + j ≡ j
  from_start j = omega arith

  -- a needle at the start of what follows a position is at the position
  pub occurs_on : (p : ℕ) → p ≤ length hay
      → (OccursAt (take (length hay - p) (drop p hay)) needle 0 → OccursBy itself hay needle p)
      × (OccursBy itself hay needle p → OccursAt (take (length hay - p) (drop p hay)) needle 0)
  occurs_on p inside = grind (arith, inside, take_all, length-drop, get_or-drop, from_start)

  pub finds_same : (found : Option ℕ) → FindsNeedle hay needle 0 found
      → FindsBy itself hay needle found
  finds_same = grind (arith, IsFirst-agree)

  pub same_finds : (found : Option ℕ) → FindsBy itself hay needle found
      → FindsNeedle hay needle 0 found
  same_finds = grind (arith, IsFirst-agree)

-- a search for the byte of a needle of one byte is one for the needle
module _ (hay needle : List ℕ) (one : length needle ≡ 1) where
  abbrev on : ℕ → Bool
  on = is_byte (get_or needle 0 0)

  inside : (k : ℕ) → OccursAt hay needle k → k < length hay
  inside k occurs = let fits = occurs.fits in omega (arith, fits)

  pub finds_byte : (found : Option ℕ) → IsFirstByte on hay found
      → FindsBy itself hay needle found
  finds_byte found is = finds_same hay needle found
      (grind (arith, IsFirst-wider, inside, IsFirst-agree, OccursAt-byte, byte-OccursAt))

-- ---- a needle among the images of the bytes

module _ (image : ℕ → ℕ) (hay needle : List ℕ) where
  occurs_images : (k : ℕ) → OccursBy image hay needle k
      → OccursAt (map image hay) (map image needle) k
  occurs_images k occurs = let fits = occurs.fits in record {
    fits = omega (arith, fits, length-map hay image, length-map needle image);
    reads = λ j l.
        let inside : j < length needle = omega (arith, l, length-map needle image) in
        get_or-map image hay (k + j) 0 0 (omega (arith, inside, fits))
        ∙ occurs.reads j inside ∙ sym (get_or-map image needle j 0 0 inside);
  }

  images_occur : (k : ℕ) → OccursAt (map image hay) (map image needle) k
      → OccursBy image hay needle k
  images_occur k occurs = let fits = occurs.fits in
      let room : k + length needle ≤ length hay = grind (arith, length-map) in record {
        fits = room;
        reads = λ j inside. sym (get_or-map image hay (k + j) 0 0 (omega (arith, inside, room)))
            ∙ occurs.reads j (omega (arith, inside, length-map needle image))
            ∙ get_or-map image needle j 0 0 inside;
      }

  pub finds_images : (found : Option ℕ) → FindsBy image hay needle found
      → FindsNeedle (map image hay) (map image needle) 0 found
  finds_images found is = subst
      (λ n. IsFirst (OccursAt (map image hay) (map image needle)) 0 (n + 1) found)
      (sym (length-map hay image))
      (IsFirst-agree (OccursBy image hay needle) (OccursAt (map image hay) (map image needle)) 0
      (length hay + 1) (λ k _. occurs_images k) (λ k _. images_occur k) found is)

  -- the first one from a position on, if there is none before it
  pub finds_after : (from : ℕ) (found : Option ℕ) → from ≤ length hay
      → Nowhere (OccursBy image hay needle) 0 from
      → FindsNeedle (map image hay) (map image needle) from found → FindsBy image hay needle found
  finds_after from found inside before is =
      found_first image hay needle from (length hay + 1) found (λ none. omega arith) before
      (IsFirst-agree (OccursAt (map image hay) (map image needle)) (OccursBy image hay needle) from
      (length hay + 1) (λ k _. images_occur k) (λ k _. occurs_images k) found
      (subst (λ n. IsFirst (OccursAt (map image hay) (map image needle)) from (n + 1) found)
      (length-map hay image) is))

  -- the part at a position has the images of the needle exactly if the needle is there
  pub part_is : (k : ℕ) → k + length needle ≤ length hay
      → (map image (slice_range hay k (k + length needle)) ≡ map image needle)
      ↔ OccursBy image hay needle k
  part_is k fits =
      let size : k + length needle - k ≡ length (map image needle) = grind (arith, length-map) in
      let part : map image (slice_range hay k (k + length needle))
      ≡ take (length (map image needle)) (drop k (map image hay)) =
      grind (arith, take-map, drop-map) in (
        λ same. images_occur k (grind (arith, OccursAt-from_part, length-map)),
        λ occurs. part ∙ OccursAt-part (map image hay) (map image needle) k
            (occurs_images k occurs),
      )

-- a byte is a letter in one of its cases exactly if its image in lower case is that of the letter
pub either_case : (code lower upper : ℕ) → lower ≡ lower_image code → upper ≡ upper_image code
    → (x : ℕ) → (is_byte2 lower upper x ≡ true) ↔ (lower_image x ≡ lower_image code)
either_case code lower upper low up x = grind (arith, nat_tests)

pub one_case : (code x : ℕ) → (is_byte2 code code x ≡ true) ↔ (itself x ≡ itself code)
one_case code x = grind (arith, or_cases, eqb, eqb-true, eq-eqb)
