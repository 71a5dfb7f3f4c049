-- What counts are after one more text, and after the words of one more line.
use Rattle.std.proofs.Common.{◌≡◌, ◌∙◌, ℕ, zero, suc, ◌+◌, ◌*◌, ◌^◌, ◌<◌, ◌≤◌, Bool, false, true, List, []}
use Rattle.std.proofs.Common.{◌∷◌, ◌++◌, Err, Ok, OnOk, Result, Some, ⊎_elim, add-one, add-zero, ap, arith}
use Rattle.std.proofs.Common.{cond, is_err, length, length-append, refl, sym, unwrap_or}
use Rattle.std.specs.Cmp.{IsEquivalence}
use Rattle.std.specs.List.{count_by}
use Rattle.std.proofs.lemmas.Bool.{cases_Bool, false≢true}
use Rattle.std.proofs.lemmas.List.{append-nil}
use Rattle.std.proofs.lemmas.List.Concat.{flat_map-append}
use Rattle.std.proofs.lemmas.List.Sums.{count_by-le-length, sum_by-cons, sum_by_push}
use Rattle.ascii.specs.ByClass.{words_by}
use Rattle.ascii.specs.Lines.{Line}
use Rattle.ascii.specs.Spans.{WithStart}
use Rattle.ascii.specs.Tests.{is_whitespace}
use Rattle.ascii_keys.specs.Maps.{Changes, Entries, Values}
use Rattle.examples.specs.Tally.{Counts, CountsBy, CountsWords, some_times, words_of}

times_back : (n : ℕ) → unwrap_or (some_times n) 0 ≡ n
times_back zero = refl
times_back (suc n) = refl

times_more : (n : ℕ) → some_times (n + 1) ≡ Some (n + 1)
times_more n = rw add-one refl

module _ (same : List ℕ → List ℕ → Bool) (laws : IsEquivalence same) where
  -- equal texts are found equally often
  count_same : (text other : List ℕ) → same text other ≡ true → (texts : List (List ℕ))
      → count_by (same text) texts ≡ count_by (same other) texts
  count_same text other equal [] = refl
  count_same text other equal (first ∷ texts) =
      rw (
        sum_by-cons (λ one. cond (same text one) 1 0) first texts,
        sum_by-cons (λ one. cond (same other one) 1 0) first texts,
        laws.congr text other first equal,
        count_same text other equal texts,
      ) refl

  count_push : (text : List ℕ) (texts : List (List ℕ)) (last : List ℕ)
      → count_by (same text) (texts ++ last ∷ [])
      ≡ count_by (same text) texts + cond (same last text) 1 0
  count_push text texts last = rw (laws.symm last text)
      (sum_by_push (λ one. cond (same text one) 1 0) texts last)

  module _ (texts : List (List ℕ)) (last : List ℕ) (counts : Values ℕ)
      (is : CountsBy same texts counts) where
    before : unwrap_or (counts last) 0 ≡ count_by (same last) texts
    before = rw (is last) (times_back (count_by (same last) texts))

    -- a text was counted at most as often as there were texts
    pub count_fits : unwrap_or (counts last) 0 ≤ length texts
    count_fits = rw before (count_by-le-length (same last) texts)

    pub counts_next : (new : Values ℕ) (value : ℕ) → value ≡ unwrap_or (counts last) 0
        → Changes same counts last (Some (value + 1)) new → CountsBy same (texts ++ last ∷ []) new
    counts_next new value read changes = λ text.
        rw count_push (changes text ∙ ⊎_elim
        (λ (yes : same last text ≡ true).
        rw (yes, ← count_same last text yes texts, ← before, ← read) (sym (times_more value)))
        (λ (no : same last text ≡ false). rw (no, is text, add-zero) refl)
        (cases_Bool (same last text)))

-- ---- the words of lines

-- what is true on `Ok` is true if there is no error
pub at_ok : {T E : Type 0} (P : Type 0) (r : Result T E) → is_err r ≡ false → OnOk r P → P
at_ok P (Ok _) sure holds = holds
at_ok P (Err _) sure holds = absurd (false≢true (sym sure))

-- the words of one more line come after those of the lines
words_push : (lines : List (WithStart Line)) (line : WithStart Line)
    → words_of (lines ++ line ∷ []) ≡ words_of lines ++ words_by is_whitespace line.item.body
words_push lines line =
    flat_map-append (λ one. words_by is_whitespace one.item.body) lines (line ∷ [])
    ∙ ap (λ words. words_of lines ++ words) (append-nil (words_by is_whitespace line.item.body))

-- if the words of one more line are counted too, those of the lines with it are
pub counts_line : (lines : List (WithStart Line)) (line : WithStart Line) (new : Entries ℕ)
    → length (words_of lines) ≤ 2 ^ 64 * length lines
    → length (words_by is_whitespace line.item.body) < 2 ^ 64
    → Counts (words_of lines ++ words_by is_whitespace line.item.body) new
    → CountsWords (lines ++ line ∷ []) new
    × (length (words_of (lines ++ line ∷ [])) ≤ 2 ^ 64 * length (lines ++ line ∷ []))
counts_line lines line new within fits counted = rw (words_push lines line) (
  counted,
  omega (
    arith,
    within,
    fits,
    length-append (words_of lines) (words_by is_whitespace line.item.body),
    length-append lines (line ∷ []),
  ),
)
