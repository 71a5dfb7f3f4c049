-- The items that the ways of cutting a text find are what the text has where they start.
use Rattle.std.proofs.Common.{◌≡◌, ◌≢◌, ℕ, zero, suc, ◌+◌, ◌-◌, ◌<◌, ◌≤◌, Bool, true, false, List}
use Rattle.std.proofs.Common.{[], ◌∷◌, ◌++◌, length, take, drop, reverse, refl, sym, ap, ◌∙◌, subst}
use Rattle.std.proofs.Common.{arith, inl, inr, ◌⊎◌, append_assoc, append-nil, length-append}
use Rattle.std.proofs.Common.{take_at, drop-drop, ◌==◌, None, Some}
use Rattle.std.proofs.Math.Seq.{drop-append_seam}
use Rattle.std.specs.List.{All, flat_map}
use Rattle.std.proofs.lemmas.Bool.{cases_Bool, cases_lt, false≢true}
use Rattle.std.proofs.lemmas.List.{length-take-le, reverse-append, take-append-drop}
use Rattle.std.proofs.lemmas.List.Elements.{All-append, All-cons, All-filter, All-head, All-nil}
use Rattle.std.proofs.lemmas.List.Elements.{All-tail}
use Rattle.memchr.specs.Find.{FindsNeedle, Nowhere, OccursAt, occurs_at}
use Rattle.memchr.proofs.lemmas.MatchLemmas.{OccursAt-split, OccursAt-true, occurs_at-true}
use Rattle.ascii.specs.ByClass.{has_some, piece_spans_by, word_spans_by}
use Rattle.ascii.specs.Ended.{inclusive_spans, some_span, terminated_spans, with_last}
use Rattle.ascii.specs.ByText.{match_spans_at, piece_spans_at}
use Rattle.ascii.specs.Found.{piece_spans}
use Rattle.ascii.specs.Lines.{Line, ending_text, line_text}
use Rattle.ascii.specs.Placed.{ArePlaced, ArePlacedLines, HasAt, IsPlaced, body_in}
use Rattle.ascii.specs.Spans.{LineSpansOf, WithStart, items_of, line_size, with_starts}
use Rattle.ascii.proofs.ByClassLemmas.{pieces_joint, pieces_none}
use Rattle.ascii.proofs.ByTextLemmas.{match_spans_at_first, match_spans_at_none}
use Rattle.ascii.proofs.ByTextLemmas.{piece_spans_at_first, piece_spans_at_none}
use Rattle.ascii.proofs.EndedLemmas.{each_span, items_from, items_one, items_open}

-- a text that has an item at a place, and something after it
pub has_at : (text item rest : List ℕ) (place : ℕ) → drop place text ≡ item ++ rest
    → HasAt text place item
has_at text item rest place is = grind (arith, take_at)

-- the same of a text that starts at an offset, of which `t` is what comes from `start` on
placed_at : (offset : ℕ) (text t gap item after : List ℕ) (start : ℕ) → offset ≤ start
    → drop (start - offset) text ≡ t → start + length t ≡ offset + length text
    → t ≡ gap ++ (item ++ after)
    → IsPlaced offset text (record { start = start + length gap; item = item })
placed_at offset text t gap item after start low is end within =
    grind (
      arith,
      length-append,
      has_at,
      drop-drop (length gap) (start - offset) text,
      drop-append_seam gap (item ++ after),
    )

omega_zero : (n : ℕ) → n ≡ n + 0
omega_zero n = omega arith

-- a text with a first code that a test accepts
pub record FirstOf (test : ℕ → Bool) (t : List ℕ) : Type 0 where
  pub before : List ℕ
  pub code : ℕ
  pub after : List ℕ
  pub split : t ≡ before ++ code ∷ after
  pub free : All (λ d. test d ≡ false) before
  pub cuts : test code ≡ true

-- a text is free of what a test accepts, or has a first code that it accepts
pub first_of : (test : ℕ → Bool) (t : List ℕ) → All (λ d. test d ≡ false) t ⊎ FirstOf test t
first_of test [] = inl (All-nil _)
first_of test (c ∷ t) = elim (cases_Bool (test c)) [
  | inl is ↦ inr (record {
    before = [];
    code = c;
    after = t;
    split = refl;
    free = All-nil _;
    cuts = is;
  })
  | inr out ↦ elim (first_of test t) [
    | inl free ↦ inl (All-cons (λ d. test d ≡ false) c t out free)
    | inr found ↦ inr (record {
      before = c ∷ found.before;
      code = found.code;
      after = found.after;
      split = ap (λ xs. c ∷ xs) found.split;
      free = All-cons (λ d. test d ≡ false) c found.before out found.free;
      cuts = found.cuts;
    })
  ]
]

-- the first item of a list of items, which is in the front of the text, and then those of the rest
record FirstItem (items : ℕ → List ℕ → List (WithStart (List ℕ))) (start : ℕ) (t : List ℕ) : Type 0
  where
    gap : List ℕ
    item : List ℕ
    after : List ℕ
    within : t ≡ gap ++ (item ++ after)
    front : List ℕ
    rest : List ℕ
    split : t ≡ front ++ rest
    some : 0 < length front
    is : items start t ≡ record { start = start + length gap; item = item }
        ∷ items (start + length front) rest

-- items that are the whole text, none, or a first one and those of the rest, are placed
module _ (items : ℕ → List ℕ → List (WithStart (List ℕ)))
    (breaks : (start : ℕ) (t : List ℕ) → (items start t ≡ [])
    ⊎ ((items start t ≡ record { start = start; item = t } ∷ []) ⊎ FirstItem items start t))
    (text : List ℕ) (offset : ℕ) where
  -- those of a text are, if those of every shorter rest are
  placed_step : (start : ℕ) (t : List ℕ)
      → ((next : ℕ) (b : List ℕ) → length b < length t → offset ≤ next
      → drop (next - offset) text ≡ b → next + length b ≡ offset + length text
      → ArePlaced offset text (items next b))
      → offset ≤ start → drop (start - offset) text ≡ t → start + length t ≡ offset + length text
      → ArePlaced offset text (items start t)
  placed_step start t others low is end =
      let Is = IsPlaced offset text in
      elim (breaks start t) [
        | inl none ↦ rw none (All-nil Is)
        | inr some ↦ elim some [
          | inl one ↦ rw one (All-cons Is (record { start = start; item = t }) []
              (subst (λ n. Is (record { start = n; item = t })) (sym (omega_zero start))
              (placed_at offset text t [] t [] start low is end (sym (append-nil t)))) (All-nil Is))
          | inr first ↦
              let long : length t ≡ length first.front + length first.rest =
              ap length first.split ∙ length-append first.front first.rest in
              let next : start + length first.front - offset
              ≡ (start - offset) + length first.front = omega (arith, low) in
              let behind : drop (start + length first.front - offset) text ≡ first.rest =
              ap (λ n. drop n text) next
              ∙ (sym (drop-drop (length first.front) (start - offset) text)
              ∙ (grind (arith, drop-append_seam))) in
              rw first.is (All-cons Is
              (record { start = start + length first.gap; item = first.item })
              (items (start + length first.front) first.rest)
              (placed_at offset text t first.gap first.item first.after start low is end first.within)
              (grind arith))
        ]
      ]

  placed_up_to : (fuel start : ℕ) (t : List ℕ) → length t ≤ fuel → offset ≤ start
      → drop (start - offset) text ≡ t → start + length t ≡ offset + length text
      → ArePlaced offset text (items start t)
  placed_up_to zero start t long = grind (arith, placed_step)
  placed_up_to (suc fuel) start t long = placed_step start t
      (λ next b short. placed_up_to fuel next b (omega (arith, long, short)))

  placed_all : ArePlaced offset text (items offset text)
  placed_all = placed_up_to (length text) offset text (omega arith) (omega arith)
      (let none : offset - offset ≡ 0 = omega arith in ap (λ n. drop n text) none) refl

-- ---- pieces and words by a test

module _ (test : ℕ → Bool) where
  pub pieces_placed : (offset : ℕ) (text : List ℕ)
      → ArePlaced offset text (piece_spans_by test (record { start = offset; item = text }))
  pieces_placed offset text = placed_all pieces breaks text offset
    where
      pieces : ℕ → List ℕ → List (WithStart (List ℕ))
      pieces start t = piece_spans_by test (record { start = start; item = t })

      breaks : (start : ℕ) (t : List ℕ) → (piece_spans_by test (record { start = start; item = t }) ≡ [])
          ⊎ ((piece_spans_by test (record { start = start; item = t })
          ≡ record { start = start; item = t } ∷ [])
          ⊎ FirstItem (λ n u. piece_spans_by test (record { start = n; item = u })) start t)
      breaks start t = elim (first_of test t) [
        | inl free ↦ inr (inl (pieces_none test start t free))
        | inr cut ↦
            let a = cut.before in
            let size : length (a ++ cut.code ∷ []) ≡ length a + 1 = length-append a (cut.code ∷ []) in
            inr (inr (record {
              gap = [];
              item = a;
              after = cut.code ∷ cut.after;
              within = cut.split;
              front = a ++ cut.code ∷ [];
              rest = cut.after;
              split = cut.split ∙ sym (append_assoc a (cut.code ∷ []) cut.after);
              some = omega (arith, size);
              is = grind (arith, pieces_joint, pieces_none, omega_zero);
            }))
      ]

  pub words_placed : (offset : ℕ) (text : List ℕ)
      → ArePlaced offset text (word_spans_by test (record { start = offset; item = text }))
  words_placed offset text =
      All-filter (λ span. has_some span.item) (IsPlaced offset text) _ (pieces_placed offset text)

-- ---- pieces that a separator ends

module _ (on : ℕ) where
  pub terminated_placed : (offset : ℕ) (text : List ℕ)
      → ArePlaced offset text (terminated_spans on (record { start = offset; item = text }))
  terminated_placed offset text = kept (piece_spans on (record { start = offset; item = text }))
      (pieces_placed (λ code. code == on) offset text)
    where
      kept : (spans : List (WithStart (List ℕ))) → ArePlaced offset text spans
          → ArePlaced offset text (with_last (each_span (λ piece. piece) on) some_span spans)
      kept [] placed = placed
      kept (span ∷ []) placed = grind (arith, All-filter)
      kept (span ∷ next ∷ spans) placed =
          All-cons (IsPlaced offset text) span _
          (All-head (IsPlaced offset text) span (next ∷ spans) placed)
          (kept (next ∷ spans) (All-tail (IsPlaced offset text) span (next ∷ spans) placed))

  pub inclusive_placed : (offset : ℕ) (text : List ℕ)
      → ArePlaced offset text (inclusive_spans on (record { start = offset; item = text }))
  inclusive_placed offset text = placed_all (items_from (λ piece. piece ++ on ∷ []) on) breaks text offset
    where
      breaks : (start : ℕ) (t : List ℕ) → (items_from (λ piece. piece ++ on ∷ []) on start t ≡ [])
          ⊎ ((items_from (λ piece. piece ++ on ∷ []) on start t
          ≡ record { start = start; item = t } ∷ [])
          ⊎ FirstItem (items_from (λ piece. piece ++ on ∷ []) on) start t)
      breaks start [] = inl refl
      breaks start (d ∷ t) = elim (first_of (λ code. code == on) (d ∷ t)) [
        | inl free ↦
            inr (inl (items_open (λ piece. piece ++ on ∷ []) on start (d ∷ t) free (λ none. cc)))
        | inr cut ↦
            let a = cut.before in
            let split : d ∷ t ≡ a ++ on ∷ cut.after = grind arith in
            let whole : d ∷ t ≡ (a ++ on ∷ []) ++ cut.after = grind (arith, append_assoc) in
            let size : length (a ++ on ∷ []) ≡ length a + 1 = length-append a (on ∷ []) in
            inr (inr (record {
              gap = [];
              item = a ++ on ∷ [];
              after = cut.after;
              within = whole;
              front = a ++ on ∷ [];
              rest = cut.after;
              split = whole;
              some = omega (arith, size);
              is = ap (items_from (λ piece. piece ++ on ∷ []) on start) split
                  ∙ rw size (grind (arith, items_one, items_from, omega_zero));
            }))
      ]

-- ---- items in reverse

pub placed_reversed : (offset : ℕ) (text : List ℕ) (spans : List (WithStart (List ℕ)))
    → ArePlaced offset text spans → ArePlaced offset text (reverse spans)
placed_reversed offset text [] placed = placed
placed_reversed offset text (span ∷ spans) placed =
    let Is = IsPlaced offset text in
    subst (All Is) (sym (reverse-append (span ∷ []) spans))
    (All-append Is (reverse spans) (span ∷ [])
    (placed_reversed offset text spans (All-tail Is span spans placed))
    (All-cons Is span [] (All-head Is span spans placed) (All-nil Is)))

-- ---- pieces at a text, and where it occurs

-- whether a needle occurs before a place is decided, and where first
search_up : (t needle : List ℕ) (n : ℕ) → Nowhere (OccursAt t needle) 0 n
    ⊎ ((k : ℕ) × (k < n) × Nowhere (OccursAt t needle) 0 k × OccursAt t needle k)
search_up t needle zero = inl (λ k low high. absurd (omega (arith, high)))
search_up t needle (suc n) = elim (search_up t needle n) [
  | inl none ↦ elim (cases_Bool (occurs_at t needle n)) [
    | inl here ↦ inr (n, omega arith, none, OccursAt-true t needle n here)
    | inr out ↦ inl (λ k low high occurs. elim (cases_lt k n) [
      | inl sooner ↦ none k low sooner occurs
      | inr later ↦ grind (arith, false≢true, occurs_at-true)
    ])
  ]
  | inr found ↦ inr (found.0, omega (arith, found.1), found.2, found.3)
]

-- a needle that is not empty is found at a place, or nowhere
finds_needle : (t needle : List ℕ) → FindsNeedle t needle 0 None
    ⊎ ((k : ℕ) × FindsNeedle t needle 0 (Some k))
finds_needle t needle = grind (arith, search_up t needle (length t + 1))

module _ (needle : List ℕ) (some_needle : needle ≢ []) where
  needle_long : (needle : List ℕ) → needle ≢ [] → 0 < length needle
  needle_long [] some = absurd (some refl)
  needle_long (n ∷ ns) some = omega arith

  pieces_at_break : (start : ℕ) (t : List ℕ)
      → (piece_spans_at needle (record { start = start; item = t }) ≡ [])
      ⊎ ((piece_spans_at needle (record { start = start; item = t })
      ≡ record { start = start; item = t } ∷ [])
      ⊎ FirstItem (λ n u. piece_spans_at needle (record { start = n; item = u })) start t)
  pieces_at_break start t = elim (finds_needle t needle) [
    | inl none ↦ inr (inl (piece_spans_at_none start t needle none))
    | inr found ↦
        let k = found.0 in
        let fits = found.1.1.fits in
        let m = k + length needle in
        let size : length (take m t) ≡ m = length-take-le m t fits in
        inr (inr (record {
          gap = [];
          item = take k t;
          after = drop k t;
          within = sym (take-append-drop k t);
          front = take m t;
          rest = drop m t;
          split = sym (take-append-drop m t);
          some = omega (arith, size, needle_long needle some_needle);
          is = grind (arith, piece_spans_at_first, omega_zero);
        }))
  ]

  matches_break : (start : ℕ) (t : List ℕ)
      → (match_spans_at needle (record { start = start; item = t }) ≡ [])
      ⊎ ((match_spans_at needle (record { start = start; item = t })
      ≡ record { start = start; item = t } ∷ [])
      ⊎ FirstItem (λ n u. match_spans_at needle (record { start = n; item = u })) start t)
  matches_break start t = elim (finds_needle t needle) [
    | inl none ↦ inl (match_spans_at_none start needle t none)
    | inr found ↦
        let k = found.0 in
        let fits = found.1.1.fits in
        let m = k + length needle in
        let size : length (take m t) ≡ m = length-take-le m t fits in
        let before : length (take k t) ≡ k = length-take-le k t (omega (arith, fits)) in
        inr (inr (record {
          gap = take k t;
          item = needle;
          after = drop m t;
          within = grind (arith, take-append-drop, OccursAt-split);
          front = take m t;
          rest = drop m t;
          split = sym (take-append-drop m t);
          some = omega (arith, size, needle_long needle some_needle);
          is = rw (size, before) (match_spans_at_first start needle t k some_needle found.1);
        }))
  ]

pub pieces_at_placed : (needle : List ℕ) (offset : ℕ) (text : List ℕ)
    → ArePlaced offset text (piece_spans_at needle (record { start = offset; item = text }))
pieces_at_placed [] offset text =
    let none : offset - offset ≡ 0 = omega arith in
    All-cons (IsPlaced offset text) (record { start = offset; item = text }) [] (record {
      low = omega arith;
      high = omega arith;
      has = has_at text text [] (offset - offset)
          (ap (λ n. drop n text) none ∙ sym (append-nil text));
    }) (All-nil _)
pieces_at_placed (n ∷ ns) offset text = placed_all
    (λ start t. piece_spans_at (n ∷ ns) (record { start = start; item = t }))
    (pieces_at_break (n ∷ ns) (λ none. cc)) text offset

pub matches_placed : (needle : List ℕ) (offset : ℕ) (text : List ℕ)
    → ArePlaced offset text (match_spans_at needle (record { start = offset; item = text }))
matches_placed [] offset text = All-nil _
matches_placed (n ∷ ns) offset text = placed_all
    (λ start t. match_spans_at (n ∷ ns) (record { start = start; item = t }))
    (matches_break (n ∷ ns) (λ none. cc)) text offset

-- ---- lines

lines_from : (offset : ℕ) (text : List ℕ) (start : ℕ) (lines : List Line) (rest : List ℕ)
    → offset ≤ start → drop (start - offset) text ≡ flat_map line_text lines ++ rest
    → start + length (flat_map line_text lines ++ rest) ≡ offset + length text
    → ArePlacedLines offset text (with_starts line_size start lines)
lines_from offset text start [] rest low is end = All-nil _
lines_from offset text start (line ∷ lines) rest low is end =
    let Is : WithStart Line → Type 0 = λ span. IsPlaced offset text (body_in span) in
    let others = flat_map line_text lines ++ rest in
    let next : start + line_size line - offset ≡ (start - offset) + length (line_text line) =
    omega (arith, low) in
    let whole : drop (start - offset) text ≡ line_text line ++ others =
    is ∙ append_assoc (line_text line) (flat_map line_text lines) rest in
    let behind : drop (start + line_size line - offset) text ≡ others =
    ap (λ n. drop n text) next ∙ (sym (drop-drop (length (line_text line)) (start - offset) text)
    ∙ (ap (drop (length (line_text line))) whole ∙ drop-append_seam (line_text line) others)) in
    let size : length (flat_map line_text (line ∷ lines) ++ rest) ≡ line_size line + length others =
    grind (arith, append_assoc, length-append) in
    All-cons Is (record { start = start; item = line })
    (with_starts line_size (start + line_size line) lines)
    (subst (λ n. IsPlaced offset text (record { start = n; item = line.body })) (sym (omega_zero start))
    (placed_at offset text _ [] line.body (ending_text line.ending ++ others) start low is end
    (grind (arith, append_assoc))))
    (lines_from offset text (start + line_size line) lines rest (omega (arith, low)) behind
    (omega (arith, size, end)))

-- the body of each of the first lines of a text
pub first_lines_placed : (offset : ℕ) (text : List ℕ) (lines : List Line) (rest : List ℕ)
    → flat_map line_text lines ++ rest ≡ text
    → ArePlacedLines offset text (with_starts line_size offset lines)
first_lines_placed offset text lines rest joined = lines_from offset text offset lines rest
    (omega arith) (grind arith) (ap (λ t. offset + length t) joined)

-- the body of each line of a text
pub lines_placed : (offset : ℕ) (text : List ℕ) (spans : List (WithStart Line))
    → LineSpansOf offset text spans → ArePlacedLines offset text spans
lines_placed offset text spans are = rw are.starts (first_lines_placed offset text
    (items_of spans) [] (append-nil (flat_map line_text (items_of spans)) ∙ are.lines.joined))
