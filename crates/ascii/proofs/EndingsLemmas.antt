-- The end of a line in a text, and in a text that begins with the same bytes.
use Rattle.std.proofs.Common.{◌≡◌, ℕ, ◌+◌, ◌-◌, ◌<◌, ◌≤◌, List, ◌++◌, length, get_or, None, Some}
use Rattle.std.proofs.Common.{ap, arith, sym, ◌∙◌, inl, inr, eq-eqb, eqb-true, ◌≢◌, All, Bool}
use Rattle.std.proofs.Common.{Option, true, eqb}
use Rattle.std.specs.List.{slice_range}
use Rattle.std.specs.Prelude.{MatchOption}
use Rattle.std.proofs.Math.ListN.{get_or-append}
use Rattle.std.proofs.lemmas.Bool.{cases_lt, or_cases, or_left, or_right}
use Rattle.std.proofs.lemmas.List.Elements.{All-get_or}
use Rattle.ascii_base.proofs.ListLemmas.{length-slice_range, slice_range-at}
use Rattle.ascii_base.specs.Bytes.{IsFirstOf}
use Rattle.memchr.specs.Find.{IsFirst, IsFirstByte, NoneBefore, Nowhere, Passes}
use Rattle.ascii.specs.declared.iter.spans.Endings.{Endings}
use Rattle.ascii.specs.declared.iter.spans.Endings.TheVariants.{CrLfStrict}
use Rattle.ascii.specs.Endings.{FreeUpTo, IsFirstStop, IsLineBreak, StopsAt, is_line_break}

-- the first `n` bytes of two texts are the same
abbrev pub AgreeUpTo : List ℕ → List ℕ → ℕ → Type 0
AgreeUpTo a b n = (k : ℕ) → k < n → get_or a k 0 ≡ get_or b k 0

StopsAt-same : (kind : Endings) (a b : List ℕ) (n k : ℕ) → AgreeUpTo a b n → k < n
    → StopsAt kind a k → StopsAt kind b k
StopsAt-same kind a b n k same inside is = grind arith

pub FreeUpTo-same : (kind : Endings) (a b : List ℕ) (n : ℕ) → AgreeUpTo a b n
    → FreeUpTo kind a n → FreeUpTo kind b n
FreeUpTo-same kind a b n same free k inside = λ is. free k inside
    (StopsAt-same kind b a n k (λ j low. sym (same j low)) inside is)

pub IsFirstStop-same : (kind : Endings) (a b : List ℕ) (n : ℕ) → AgreeUpTo a b n
    → IsFirstStop kind a n → IsFirstStop kind b n
IsFirstStop-same kind a b n same ends = record {
  some = ends.some;
  last = StopsAt-same kind a b n (n - 1) same (omega (arith, ends.some)) ends.last;
  free = FreeUpTo-same kind a b (n - 1) (λ k low. same k (omega (arith, low))) ends.free;
}

-- bytes after a text leave those of the text as they are
pub FreeUpTo-more : (kind : Endings) (text more : List ℕ) (n : ℕ) → n ≤ length text
    → FreeUpTo kind text n → FreeUpTo kind (text ++ more) n
FreeUpTo-more kind text more n within free = FreeUpTo-same kind text (text ++ more) n
    (λ k low. sym (get_or-append text more 0 k (omega (arith, low, within)))) free

-- ---- a search

module _ (text : List ℕ) (from : ℕ) (within : from ≤ length text) where
  -- the text from `from` on
  abbrev pub part : List ℕ
  part = slice_range text from (length text)

  long : length part ≡ length text - from
  long = length-slice_range text from (length text) within (omega arith)

  -- a byte of the part, by its position in the text
  at_part : (k : ℕ) → from ≤ k → k < length text → get_or part (k - from) 0 ≡ get_or text k 0
  at_part k low high = grind (arith, slice_range-at)

  -- what a search of the part finds, by its position in the text
  pub none_passes : (test : ℕ → Bool) → IsFirstByte test part None
      → Nowhere (Passes test text) from (length text)
  none_passes test none k low high = λ is. none (k - from) (omega arith)
      (omega (arith, low, high, long)) (ap test (at_part k low high) ∙ is)

  pub first_passes : (test : ℕ → Bool) (place : ℕ) → IsFirstByte test part (Some place)
      → IsFirst (Passes test text) from (length text) (Some (from + place))
  first_passes test place found =
      let high : from + place < length text = omega (arith, found.0.high, long, within) in
      let back : from + place - from ≡ place = omega arith in (
        record {
          low = omega arith;
          high = high;
          before = λ k low less is. found.0.before (k - from) (omega arith)
              (omega (arith, low, less)) (ap test (at_part k low (omega (arith, less, high))) ∙ is);
        },
        grind (arith, at_part),
      )

-- ---- a search for CR and LF

is_break : (x : ℕ) → IsLineBreak x → is_line_break x ≡ true
is_break x is = grind (arith, or_left, eqb, eq-eqb, or_right)

break_is : (x : ℕ) → is_line_break x ≡ true → IsLineBreak x
break_is x is = grind (arith, or_cases, eqb, eqb-true)

-- a break that is not LF is CR
pub break_is_cr : (x : ℕ) → is_line_break x ≡ true → x ≢ 10 → x ≡ 13
break_is_cr x is other = elim (break_is x is) [ inl cr ↦ cr | inr feed ↦ absurd (other feed) ]

pub finds_break : (bytes : List ℕ) (found : Option ℕ)
    → MatchOption found (All (λ byte. ¬ (IsLineBreak byte)) bytes)
    (IsFirstOf IsLineBreak bytes 0 (length bytes))
    → IsFirstByte is_line_break bytes found
finds_break bytes found free = grind (arith, All-get_or, break_is, is_break)

module _ (text : List ℕ) (from : ℕ) (free : FreeUpTo CrLfStrict text from)
    (not_open : ¬ ((0 < from) × (from < length text) × (get_or text (from - 1) 0 ≡ 13))) where
  -- no byte stops before `n` if none from `from` on is LF, and none but the last is CR
  free_until : (n : ℕ) → n ≤ length text
      → ((k : ℕ) → from ≤ k → k < n → get_or text k 0 ≢ 10)
      → ((k : ℕ) → from ≤ k → k + 1 < n → get_or text k 0 ≢ 13) → FreeUpTo CrLfStrict text n
  free_until n within no_feed no_cr k inside = λ is. grind (arith, cases_lt)

  -- up to the first CR or LF
  pub before_break : (place : ℕ)
      → NoneBefore (Passes (is_line_break) text) from (length text) place
      → FreeUpTo CrLfStrict text place
  before_break place first = grind (arith, free_until, is_break)

  -- and one byte further, if it is not LF
  pub at_break : (place : ℕ)
      → NoneBefore (Passes (is_line_break) text) from (length text) place
      → get_or text place 0 ≢ 10 → FreeUpTo CrLfStrict text (place + 1)
  at_break place first other = grind (arith, free_until, cases_lt, is_break)

-- the byte after the first bytes, of which the last is CR, stops
pub stop_after_cr : (text : List ℕ) (n : ℕ) → 0 < n → get_or text (n - 1) 0 ≡ 13
    → FreeUpTo CrLfStrict text n → IsFirstStop CrLfStrict text (n + 1)
stop_after_cr text n some cr free = grind arith

-- an LF stops
pub stop_at_lf : (text : List ℕ) (place : ℕ) → get_or text place 0 ≡ 10
    → FreeUpTo CrLfStrict text place → IsFirstStop CrLfStrict text (place + 1)
stop_at_lf text place feed free = grind arith
