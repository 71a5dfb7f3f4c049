-- The lines of a text whose body contains a needle.
use Rattle.std.proofs.Common.{◌≡◌, ℕ, zero, suc, ◌+◌, ◌-◌, ◌<◌, ◌≤◌, true, false, List, [], ◌∷◌}
use Rattle.std.proofs.Common.{◌++◌, length, take, drop, refl, sym, ap, subst, ◌∙◌, None, Some}
use Rattle.std.proofs.Common.{arith, inl, inr, append_assoc, length-append}
use Rattle.std.specs.Bool.{Decides}
use Rattle.std.specs.List.{filter, flat_map}
use Rattle.std.proofs.Math.Seq.{drop-append_seam}
use Rattle.std.proofs.lemmas.Bool.{cases_Bool, cases_lt, cond-false, cond-true, cond_both}
use Rattle.std.proofs.lemmas.Bool.{false_from_ne_true}
use Rattle.std.proofs.lemmas.List.{get_or-append-add, get_or_append_left, length-take-le}
use Rattle.std.proofs.lemmas.List.{take-append-drop}
use Rattle.std.proofs.lemmas.List.Elements.{filter-append}
use Rattle.std.proofs.lemmas.List.Sums.{count_by-le-length, length-filter}
use Rattle.memchr.specs.Find.{FindsNeedle, OccursAt, occurs_at}
use Rattle.memchr.proofs.lemmas.MatchLemmas.{OccursAt-true, occurs_at-true}
use Rattle.ascii.specs.declared.iter.cursor.Cursor.{Cursor}
use Rattle.ascii.specs.Found.{IsAfterLines, IsSplitAfterLast, contains_text, line_spans, lines_with}
use Rattle.ascii.specs.Lines.{Line, ending_text, line_text}
use Rattle.ascii.specs.Search.{ContainsText, IsByCodes}
use Rattle.ascii.specs.Spans.{Filters, WithStart, line_size, with_starts}
use Rattle.ascii.specs.View.{text_of}
use Rattle.ascii.proofs.ByTextLemmas.{later, sooner}
use Rattle.ascii.proofs.LinesLemmas.{LinesOf-lines_of, lines_of-behind}
use Rattle.ascii.proofs.SpansLemmas.{line_spans_fit, room-lines_of, with_starts-append}

-- ---- whether a text contains another

found_there : (needle text : List ℕ) → contains_text needle text ≡ true → ContainsText needle text
unfolding contains_text
found_there needle [] is = (0, OccursAt-true [] needle 0 is)
found_there needle (c ∷ text) is = elim (cases_Bool (occurs_at (c ∷ text) needle 0)) [
  | inl here ↦ (0, OccursAt-true (c ∷ text) needle 0 here)
  | inr out ↦
      let out_is = cond-false (occurs_at (c ∷ text) needle 0) true (contains_text needle text) out in
      let others = found_there needle text (sym out_is ∙ is) in
      (suc others.0, sooner c text needle others.0 others.1)
]

there_found : (needle text : List ℕ) (k : ℕ) → OccursAt text needle k
    → contains_text needle text ≡ true
unfolding contains_text
there_found needle [] zero occurs = occurs_at-true [] needle 0 occurs
there_found needle [] (suc k) occurs = absurd (let fits = occurs.fits in omega (arith, fits))
there_found needle (c ∷ text) zero occurs =
    cond-true _ _ _ (occurs_at-true (c ∷ text) needle 0 occurs)
there_found needle (c ∷ text) (suc k) occurs = cond_both (occurs_at (c ∷ text) needle 0) true
    (contains_text needle text) (λ b. b ≡ true) (λ is. refl)
    (λ is. there_found needle text k (later c text needle k occurs))

pub contains_text-decides : (needle text : List ℕ)
    → Decides (contains_text needle text) (ContainsText needle text)
contains_text-decides needle text =
    (found_there needle text, λ occurs. there_found needle text occurs.0 occurs.1)

not_there : (needle text : List ℕ) → ¬ (ContainsText needle text)
    → contains_text needle text ≡ false
not_there needle text none = false_from_ne_true _ (λ is. none (found_there needle text is))

-- ---- where a needle is in the image of two texts, one after the other

module _ (image : List ℕ → List ℕ) (by : IsByCodes image) (a b needle : List ℕ) (k : ℕ) where
  in_both : OccursAt (image a) needle k → OccursAt (image (a ++ b)) needle k
  in_both occurs = rw (by.joined a b) (grind (arith, length-append, get_or_append_left))

  in_first : k + length needle ≤ length a → OccursAt (image (a ++ b)) needle k
      → OccursAt (image a) needle k
  in_first fits occurs =
      let joint = subst (λ t. OccursAt t needle k) (by.joined a b) occurs in
      let size = by.long a in
      grind (arith, get_or_append_left)

  behind_first : OccursAt (image b) needle k → OccursAt (image (a ++ b)) needle (length a + k)
  behind_first occurs = rw (by.joined a b, ← by.long a)
      (grind (arith, length-append, get_or-append-add))

  in_second : OccursAt (image (a ++ b)) needle (length a + k) → OccursAt (image b) needle k
  in_second occurs =
      let joint : OccursAt (image a ++ image b) needle (length (image a) + k) =
      rw (by.long a) (subst (λ t. OccursAt t needle (length a + k)) (by.joined a b) occurs) in
      grind (arith, length-append, get_or-append-add)

-- ---- lines of a text without the needle

module _ (image : List ℕ → List ℕ) (by : IsByCodes image) (needle : List ℕ) where
  without : (start : ℕ) (lines : List Line)
      → ¬ (ContainsText needle (image (flat_map line_text lines)))
      → filter (λ line. contains_text needle (image line.item.body))
      (with_starts line_size start lines) ≡ []
  without start [] none = refl
  without start (line ∷ lines) none =
      let others = flat_map line_text lines in
      cond-false _ _ _ (not_there needle (image line.body) (λ occurs. none (
        occurs.0,
        in_both image by (line_text line) others needle occurs.0
            (in_both image by line.body (ending_text line.ending) needle occurs.0 occurs.1),
      )))
      ∙ without (start + line_size line) lines (λ occurs. none (
        length (line_text line) + occurs.0,
        behind_first image by (line_text line) others needle occurs.0 occurs.1,
      ))

  module _ (part : WithStart (List ℕ)) where
    lines_with_none : ¬ (ContainsText needle (image part.item)) → lines_with image needle part ≡ []
    lines_with_none none = grind (arith, without, LinesOf-lines_of)

    pub lines_with_nowhere : FindsNeedle (image part.item) needle 0 None
        → lines_with image needle part ≡ []
    lines_with_nowhere finds = lines_with_none (λ occurs. finds occurs.0 (omega arith)
        (let fits = occurs.1.fits in omega (arith, fits)) occurs.1)

module _ (image : List ℕ → List ℕ) (needle : List ℕ) (part : WithStart (List ℕ)) where
  -- they are those of the lines whose body contains it, and fit a `usize` as these do
  pub lines_with_are : Filters (λ line. ContainsText needle (image line.item.body))
      (line_spans part) (lines_with image needle part)
  lines_with_are = grind (arith, contains_text-decides)

  pub lines_with_fit : length (lines_with image needle part) ≤ length part.item + 1
  lines_with_fit = grind (arith, length-filter, count_by-le-length, line_spans_fit)

-- ---- lines before the first needle

-- the part after the whole lines that end by a position
pub after_lines : (place n : ℕ) (part to rest : WithStart (List ℕ)) (cut : Cursor × Cursor)
    → place ≤ length part.item → to.item ≡ take place part.item → IsSplitAfterLast 10 to cut
    → n ≡ length (text_of cut.0.view) → rest.start ≡ part.start + n
    → rest.item ≡ drop n part.item → IsAfterLines place part rest
after_lines place n part to rest cut inside to_is is long start text =
    let before = text_of cut.0.view in
    let behind = text_of cut.1.view ++ drop place part.item in
    let whole : part.item ≡ before ++ behind = grind (arith, take-append-drop, append_assoc) in
    let rest_is : rest.item ≡ behind = grind (arith, drop-append_seam) in
    grind (arith, length-append before (text_of cut.1.view), length-take-le place part.item inside)

-- the first of the lines of a part starts where the part does, with its body
first_of_lines : (start : ℕ) (lines : List Line) (line : WithStart Line)
    (others : List (WithStart Line)) → with_starts line_size start lines ≡ line ∷ others
    → (line.start ≡ start)
    × ((tail : List ℕ) × (flat_map line_text lines ≡ line.item.body ++ tail))
first_of_lines start [] line others is = absurd (omega (arith, ap length is))
first_of_lines start (first ∷ lines) line others is =
    let same : line ≡ record { start = start; item = first } = grind arith in
    let tail = ending_text first.ending ++ flat_map line_text lines in (
      ap (λ (one : WithStart Line). one.start) same,
      (
        tail,
        grind (arith, append_assoc),
      ),
    )

first_body : (part : WithStart (List ℕ)) (line : WithStart Line) (others : List (WithStart Line))
    → line_spans part ≡ line ∷ others
    → (line.start ≡ part.start) × ((tail : List ℕ) × (part.item ≡ line.item.body ++ tail))
first_body part line others is = grind (arith, first_of_lines, LinesOf-lines_of)

-- `rest` is what `part` has after some whole lines, which end at the first needle or before
module _ (image : List ℕ → List ℕ) (by : IsByCodes image) (needle : List ℕ) (place : ℕ)
    (part rest : WithStart (List ℕ)) (found : FindsNeedle (image part.item) needle 0 (Some place))
    (is : IsAfterLines place part rest) where
  in_joint : FindsNeedle (image (is.before ++ rest.item)) needle 0 (Some place)
  in_joint = subst (λ t. FindsNeedle (image t) needle 0 (Some place)) is.text found

  abbrev front : WithStart (List ℕ)
  front = record { start = part.start; item = is.before }

  all_lines : line_spans part ≡ line_spans front ++ line_spans rest
  all_lines = grind (arith, lines_of-behind, with_starts-append, room-lines_of)

  none_before : 0 < length is.before → ¬ (ContainsText needle (image is.before))
  none_before some occurs =
      let k = occurs.0 in
      let short = is.short in
      let size = by.long is.before in
      elim (cases_lt k place) [
        | inl sooner ↦ in_joint.0.before k (omega arith) sooner
            (in_both image by is.before rest.item needle k occurs.1)
        | inr past ↦ in_joint.0.before 0 (omega arith) (omega (arith, some, short)) (grind arith)
      ]

  no_lines_before : lines_with image needle front ≡ []
  no_lines_before = go is.before none_before
    where
      go : (before : List ℕ) → (0 < length before → ¬ (ContainsText needle (image before)))
          → lines_with image needle (record { start = part.start; item = before }) ≡ []
      go [] none = refl
      go (c ∷ before) none =
          lines_with_none image by needle (record { start = part.start; item = c ∷ before })
          (none (omega arith))

  -- the lines with the needle are among those of `rest`
  same_lines_with : lines_with image needle part ≡ lines_with image needle rest
  same_lines_with = ap (filter _) all_lines ∙ (grind (arith, filter-append, no_lines_before))

  pub no_line : line_spans rest ≡ [] → lines_with image needle part ≡ []
  no_line none = same_lines_with ∙ ap (filter _) none

  module _ (line : WithStart Line) (others : WithStart (List ℕ))
      (first : line_spans rest ≡ line ∷ line_spans others) where
    -- there are fewer lines after it
    pub fewer_lines : length (line_spans others) < length (line_spans part)
    fewer_lines = grind (arith, all_lines, length-append)

    -- it contains the needle if the first one ends in its body
    in_body : part.start + place + length needle ≤ line.start + length line.item.body
        → contains_text needle (image line.item.body) ≡ true
    in_body fits =
        let body = first_body rest line (line_spans others) first in
        let short = is.short in
        let k = place - length is.before in
        let at : place ≡ length is.before + k = omega (arith, short) in
        let here : OccursAt (image rest.item) needle k =
        in_second image by is.before rest.item needle k
        (subst (OccursAt (image (is.before ++ rest.item)) needle) at in_joint.1) in
        there_found needle (image line.item.body) k
        (in_first image by line.item.body body.1.0 needle k
        (omega (arith, fits, body.0, is.start, at))
        (subst (λ t. OccursAt (image t) needle k) body.1.1 here))

    -- otherwise it does not
    past_body : line.start + length line.item.body < part.start + place + length needle
        → contains_text needle (image line.item.body) ≡ false
    past_body past = not_there needle (image line.item.body) (λ occurs.
        let body = first_body rest line (line_spans others) first in
        let k = occurs.0 in
        let fits = occurs.1.fits in
        let size = by.long line.item.body in
        let here : OccursAt (image rest.item) needle k =
        subst (λ t. OccursAt (image t) needle k) (sym body.1.1)
        (in_both image by line.item.body body.1.0 needle k occurs.1) in
        in_joint.0.before (length is.before + k) (omega arith)
        (omega (arith, fits, size, past, body.0, is.start))
        (behind_first image by is.before rest.item needle k here))

    pub line_kept : part.start + place + length needle ≤ line.start + length line.item.body
        → lines_with image needle part ≡ line ∷ lines_with image needle others
    line_kept fits = same_lines_with ∙ (ap (filter _) first ∙ cond-true _ _ _ (in_body fits))

    pub line_left_out : line.start + length line.item.body < part.start + place + length needle
        → lines_with image needle part ≡ lines_with image needle others
    line_left_out past = same_lines_with ∙ (ap (filter _) first ∙ cond-false _ _ _ (past_body past))
