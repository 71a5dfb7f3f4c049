-- The last line that contains a word.
use Rattle.std.proofs.Common.{◌≡◌, ◌∙◌, ℕ, suc, ◌-◌, ◌<◌, ◌≤◌, true, Bool, List, [], ◌∷◌, ◌++◌}
use Rattle.std.proofs.Common.{IfSome, MatchOption, None, Option, Some, ap, arith, inl, inr, length}
use Rattle.std.proofs.Common.{length-append, subst, sym, take}
use Rattle.std.specs.Bool.{Decides}
use Rattle.std.specs.Iterator.Runs.{ItemsMapTo, Run}
use Rattle.std.specs.List.{HoldsAt, filter}
use Rattle.std.proofs.lemmas.Bool.{cases_Bool, cond-false, cond-true, false≢true}
use Rattle.std.proofs.Math.Seq.{take-length, take-suc}
use Rattle.std.proofs.lemmas.List.{nil_from_length}
use Rattle.std.proofs.lemmas.List.Elements.{All-cons, All-nil}
use Rattle.ascii.specs.Lines.{Line}
use Rattle.ascii.specs.Placed.{ArePlacedLines, IsPlaced, body_in}
use Rattle.ascii.specs.Spans.{Filters, WithStart, line_in}
use Rattle.ascii.specs.Steps.{DropsFirstSpan, YieldsFirstAnd}
use Rattle.ascii.specs.declared.iter.spans.LineSpan.{LineSpan}
use Rattle.examples.specs.Search.{Has, IsLast, IsLastWith, NoneHas}

module _ (word : List ℕ) (test : WithStart Line → Bool)
    (decides : (line : WithStart Line) → Decides (test line) (Has word line)) where
  none_kept : (lines : List (WithStart Line)) → filter test lines ≡ [] → NoneHas word lines
  none_kept [] none = All-nil _
  none_kept (line ∷ lines) none = elim (cases_Bool (test line)) [
    | inl is ↦ absurd (omega (arith, ap length (sym (cond-true _ _ _ is) ∙ none)))
    | inr is ↦ All-cons (λ one. ¬ (Has word one)) line lines
        (λ has. false≢true (sym is ∙ (decides line).1 has))
        (none_kept lines (sym (cond-false _ _ _ is) ∙ none))
  ]

  -- a line before others does not change which is the last
  one_before : (first line : WithStart Line) (lines : List (WithStart Line))
      → IsLast word lines line → IsLast word (first ∷ lines) line
  one_before first line lines is = record {
    before = first ∷ is.before;
    after = is.after;
    split = ap (λ others. first ∷ others) is.split;
    has = is.has;
    last = is.last;
  }

  first_kept : (first line : WithStart Line) (lines front : List (WithStart Line))
      → test first ≡ true → ((others : List (WithStart Line))
      → filter test lines ≡ others ++ line ∷ [] → IsLast word lines line)
      → first ∷ filter test lines ≡ front ++ line ∷ [] → IsLast word (first ∷ lines) line
  first_kept first line lines [] here later is =
      let same : first ≡ line = grind arith in
      let none : filter test lines ≡ [] = grind arith in
      record {
        before = [];
        after = lines;
        split = ap (λ one. one ∷ lines) same;
        has = subst (Has word) same ((decides first).0 here);
        last = none_kept lines none;
      }
  first_kept first line lines (one ∷ front) here later is =
      let others : filter test lines ≡ front ++ line ∷ [] = grind arith in
      one_before first line lines (later front others)

  last_kept : (line : WithStart Line) (lines front : List (WithStart Line))
      → filter test lines ≡ front ++ line ∷ [] → IsLast word lines line
  last_kept line [] front is = absurd (omega (arith, ap length is, length-append front (line ∷ [])))
  last_kept line (first ∷ lines) front is = elim (cases_Bool (test first)) [
    | inl here ↦ first_kept first line lines front here (last_kept line lines)
        (sym (cond-true _ _ _ here) ∙ is)
    | inr out ↦ one_before first line lines
        (last_kept line lines front (sym (cond-false _ _ _ out) ∙ is))
  ]

-- a list of `n` items, of which the last one is `last`
ends_in : (items : List (WithStart Line)) (last : WithStart Line) (n : ℕ) → n ≡ length items → 0 < n
    → HoldsAt (λ item. last ≡ item) items (n - 1) → items ≡ take (n - 1) items ++ last ∷ []
ends_in items last n long some at =
    let whole : suc (n - 1) ≡ length items = omega (arith, long, some) in
    sym (take-length items) ∙ (ap (λ k. take k items) (sym whole)
    ∙ (take-suc items (n - 1) last (omega (arith, long, some))
    ∙ ap (λ item. take (n - 1) items ++ item ∷ []) (sym (at last))))

-- the last of the lines that contain the word, by the run that yielded them
module _ (word : List ℕ) (lines : List (WithStart Line))
    (run : Run (YieldsFirstAnd line_in (λ (left : List (WithStart Line)). left) DropsFirstSpan))
    (kept : Filters (Has word) lines run.from) (whole : run.whole ≡ true)
    (items : ItemsMapTo run line_in run.from) where
  abbrev IsLastOfRun : Option LineSpan → Type 0
  IsLastOfRun result = MatchOption result (run.len ≡ 0)
      (λ line. (0 < run.len) × (run.at (run.len - 1) ≡ Some line))

  at_end : (line : LineSpan) → IsLastOfRun (Some line)
      → HoldsAt (λ one. line_in line ≡ one) run.from (run.len - 1)
  at_end line is = grind arith

  pub last_of_run : (result : Option LineSpan) → IsLastOfRun result → IsLastWith word result lines
  last_of_run None none = none_kept word kept.test kept.decides lines
      (sym kept.are ∙ nil_from_length run.from (sym (items.1 whole) ∙ none))
  last_of_run (Some line) is = last_kept word kept.test kept.decides (line_in line) lines
      (take (run.len - 1) run.from) (sym kept.are ∙ ends_in run.from (line_in line) run.len
      (items.1 whole) is.0 (at_end line is))

  -- it starts in the text
  pub last_inside : (text : List ℕ) → ArePlacedLines 0 text run.from → (result : Option LineSpan)
      → IsLastOfRun result → IfSome result (λ line. line.start ≤ length text)
  last_inside text placed None none = grind arith
  last_inside text placed (Some line) is =
      let here = subst (λ one. IsPlaced 0 text (body_in one)) (sym (at_end line is (line_in line)))
      (placed (run.len - 1) (line_in line) (omega (arith, is.0, items.1 whole))) in
      omega (arith, here.high)
