-- The output of `lines` as one text: without each CR that is before LF, and with LF after a last
-- line that has none.
use Rattle.std.proofs.Common.{append-nil, ◌≡◌, ◌≢◌, ℕ, zero, suc, ◌+◌, ◌-◌, Bool, true, false, eqb}
use Rattle.std.proofs.Common.{cond, List, [], ◌∷◌, ◌++◌, length, get_or, take, drop, refl, sym, ap}
use Rattle.std.proofs.Common.{◌∙◌, subst, arith, eqb-true, append_assoc, length-drop}
use Rattle.std.proofs.lemmas.List.Folds.{flat_map-map}
use Rattle.std.specs.List.{All, Contains, flat_map}
use Rattle.std.proofs.lemmas.List.Elements.{All-head, All-tail}
use Rattle.std.proofs.lemmas.Bool.{false≢true}
use Rattle.std.proofs.lemmas.Option.{slice_get-get_or}
use Rattle.std.proofs.Math.Seq.{take-length}
use Rattle.memchr.specs.Find.{NoneBefore, Nowhere, OccursAt}
use Rattle.ascii.specs.declared.iter.spans.Ending.{Ending}
use Rattle.ascii.specs.declared.iter.spans.Ending.TheVariants.{Absent}
use Rattle.ascii.specs.Found.{HasNo, lines_of}
use Rattle.ascii.specs.Lines.{EndsInCr, Line, MayFollow, bodies, ending_text, line_text}
use Rattle.ascii.proofs.LinesLemmas.{LinesOf-lines_of}
use Rattle.ascii.proofs.PiecesLemmas.{HasNo-from_absent}
use Rattle.ascii_run.specs.Streamed.{IsLastSegment, held_cr, lines_part, unless_cr, with_feeds}
use Rattle.ascii_run.specs.Streamed.{without_last_cr}
use Rattle.ascii_run.specs.Modes.Lines.{ShowsLines, with_line_feed}
use Rattle.ascii.proofs.ListLemmas.{last_is}

-- the last code of a whole text: LF comes after it unless it is LF
abbrev pub and_feed : ℕ → List ℕ
and_feed c = cond (eqb c 10) (c ∷ []) (c ∷ 10 ∷ [])

-- a text with LF for each ending, and after a last line that has none
abbrev pub with_line_feeds : List ℕ → List ℕ
with_line_feeds text = with_feeds and_feed text

-- ---- how it goes over a code

keeps : (last : ℕ → List ℕ) (c d : ℕ) (cs : List ℕ) → (c ≡ 13 → d ≡ 10 → ⊥)
    → with_feeds last (c ∷ d ∷ cs) ≡ c ∷ with_feeds last (d ∷ cs)
keeps last c d cs other = grind (arith, eqb, eqb-true)

no_feed : (c : ℕ) → eqb c 10 ≡ false → c ≡ 10 → ⊥
no_feed c other is = false≢true (sym other ∙ ap (λ x. eqb x 10) is)

-- the last place of two codes or more
last_place : (c d : ℕ) (cs : List ℕ) → length (c ∷ d ∷ cs) - 1 ≡ suc (length (d ∷ cs) - 1)
last_place c d cs = omega arith

-- the codes before the last one, and the last one
init_last : (t : List ℕ) → t ≢ [] → take (length t - 1) t ++ get_or t (length t - 1) 0 ∷ [] ≡ t
init_last [] some = absurd (some refl)
init_last (c ∷ []) some = refl
init_last (c ∷ d ∷ cs) some = grind (arith, last_place, init_last (d ∷ cs) (λ nil. cc))

-- ---- the body of a line

-- no CR at the end of a body before LF
spliced : (last : ℕ → List ℕ) (body : List ℕ) (d : ℕ) (ds : List ℕ) → HasNo 10 body
    → (d ≡ 10 → get_or body (length body - 1) 0 ≡ 13 → ⊥)
    → with_feeds last (body ++ d ∷ ds) ≡ body ++ with_feeds last (d ∷ ds)
spliced last [] d ds free may = refl
spliced last (c ∷ []) d ds free may = keeps last c d ds (λ at_cr at_lf. may at_lf at_cr)
spliced last (c ∷ e ∷ es) d ds free may =
    let NoFeed : ℕ → Type 0 = λ code. eqb code 10 ≡ false in
    let rest = All-tail NoFeed c (e ∷ es) free in
    keeps last c e (es ++ d ∷ ds)
    (λ at_cr at_lf. no_feed e (All-head NoFeed e es rest) at_lf)
    ∙ ap (λ t. c ∷ t)
    (spliced last (e ∷ es) d ds rest (λ at_lf at_cr. may at_lf (last_is c e es ∙ at_cr)))

-- a body alone
alone : (last : ℕ → List ℕ) (body : List ℕ) → HasNo 10 body → body ≢ []
    → with_feeds last body ≡ take (length body - 1) body ++ last (get_or body (length body - 1) 0)
alone last [] free some = absurd (some refl)
alone last (c ∷ []) free some = refl
alone last (c ∷ e ∷ es) free some =
    let NoFeed : ℕ → Type 0 = λ code. eqb code 10 ≡ false in
    let rest = All-tail NoFeed c (e ∷ es) free in
    let whole = c ∷ e ∷ es in
    keeps last c e es (λ at_cr at_lf. no_feed e (All-head NoFeed e es rest) at_lf)
    ∙ (ap (λ t. c ∷ t) (alone last (e ∷ es) rest (λ none. cc))
    ∙ ap (λ k. take k whole ++ last (get_or whole k 0)) (sym (last_place c e es)))

ends_in_cr : (body : List ℕ) → get_or body (length body - 1) 0 ≡ 13 → EndsInCr body
ends_in_cr [] is = absurd (omega (arith, is))
ends_in_cr (c ∷ cs) is = grind (arith, slice_get-get_or)

-- ---- a line, and all, where `shown` is what becomes of a line

ended : (last : ℕ → List ℕ) → last 10 ≡ 10 ∷ [] → (body : List ℕ) (ending : Ending) (t : List ℕ)
    → HasNo 10 body → MayFollow ending body → ending ≢ Absent
    → with_feeds last ((body ++ ending_text ending) ++ t) ≡ with_line_feed body ++ with_feeds last t
ended last is body ending t free may has = grind (arith, append_assoc, spliced, ends_in_cr)

module _ (last : ℕ → List ℕ) (is : last 10 ≡ 10 ∷ []) (shown : Line → List ℕ)
    (whole : (line : Line) → line.ending ≢ Absent → shown line ≡ with_line_feed line.body)
    (unended : (line : Line) → line.ending ≡ Absent → HasNo 10 line.body → line.body ≢ []
    → with_feeds last line.body ≡ shown line) where
  last_line : (line : Line) → HasNo 10 line.body → MayFollow line.ending line.body
      → with_feeds last (line_text line ++ []) ≡ shown line ++ []
  last_line line free may = grind (arith, append-nil, ended)

  all_lines : (lines : List Line) → All (λ line. ¬ (Contains line.body 10)) lines
      → All (λ line. MayFollow line.ending line.body) lines
      → All (λ line. line.ending ≢ Absent) (take (length lines - 1) lines)
      → with_feeds last (flat_map line_text lines) ≡ flat_map shown lines
  all_lines [] absent may has = refl
  all_lines (line ∷ []) absent may has =
      last_line line (grind (arith, HasNo-from_absent, All-head))
      (All-head (λ one. MayFollow one.ending one.body) line [] may)
  all_lines (line ∷ next ∷ others) absent may has =
      let NoFeed : Line → Type 0 = λ one. ¬ (Contains one.body 10) in
      let MayEnd : Line → Type 0 = λ one. MayFollow one.ending one.body in
      let Ended : Line → Type 0 = λ one. one.ending ≢ Absent in
      let n : length (line ∷ next ∷ others) - 1 ≡ suc (length (next ∷ others) - 1) = omega arith in
      let front = subst (λ m. All Ended (take m (line ∷ next ∷ others))) n has in
      let head = All-head Ended line (take (length (next ∷ others) - 1) (next ∷ others)) front in
      ended last is line.body line.ending (flat_map line_text (next ∷ others))
      (HasNo-from_absent 10 line.body (All-head NoFeed line (next ∷ others) absent))
      (All-head MayEnd line (next ∷ others) may) head ∙ ((grind arith) ∙ ap (λ xs. shown line ++ xs)
      (all_lines (next ∷ others) (All-tail NoFeed line (next ∷ others) absent)
      (All-tail MayEnd line (next ∷ others) may)
      (All-tail Ended line (take (length (next ∷ others) - 1) (next ∷ others)) front)))

  shows : (t : List ℕ) → with_feeds last t ≡ flat_map shown (lines_of t)
  shows t = grind (arith, LinesOf-lines_of t, all_lines)

not_feed : (body : List ℕ) → HasNo 10 body → body ≢ []
    → eqb (get_or body (length body - 1) 0) 10 ≡ false
not_feed [] free some = absurd (some refl)
not_feed body free some = grind (arith, All-head, eqb, last_is, All-tail)

-- a last line that has no ending
open_end : (body : List ℕ) → HasNo 10 body → body ≢ [] → with_line_feeds body ≡ with_line_feed body
open_end body free some =
    let m = length body - 1 in
    let x = get_or body m 0 in
    alone and_feed body free some
    ∙ (ap (λ b. take m body ++ cond b (x ∷ []) (x ∷ 10 ∷ [])) (not_feed body free some)
    ∙ (sym (append_assoc (take m body) (x ∷ []) (10 ∷ []))
    ∙ ap (λ xs. xs ++ 10 ∷ []) (init_last body some)))

-- it is the output of `lines`
pub ShowsLines-feeds : (t : List ℕ)
    → ShowsLines (λ lines. flat_map with_line_feed (bodies lines)) t (with_line_feeds t)
ShowsLines-feeds t = grind (arith, LinesOf-lines_of t, shows, open_end, flat_map-map)

-- a text, by whether its last code is CR
without_by : (t : List ℕ) → t ≢ [] → (b : Bool) → eqb (get_or t (length t - 1) 0) 13 ≡ b
    → take (length t - 1) t ++ cond b [] (get_or t (length t - 1) 0 ∷ [])
    ≡ cond b (take (length t - 1) t) t
without_by t some b is = grind (arith, append-nil, init_last)

-- what is written of a text before more is read, as one text
abbrev pub front_feeds : List ℕ → List ℕ
front_feeds text = with_feeds unless_cr text

-- ---- by runs

-- CR LF
abbrev pub end : List ℕ
end = 13 ∷ 10 ∷ []

-- CR LF at the front
at_front : (c d : ℕ) (cs : List ℕ) → c ≡ 13 → d ≡ 10 → OccursAt (c ∷ d ∷ cs) end 0
at_front c d cs at_cr at_lf = grind arith

-- CR LF one place on
later : (c : ℕ) (t : List ℕ) (k : ℕ) → OccursAt (c ∷ t) end (suc k) → OccursAt t end k
later c t k occurs = grind arith

before : (c : ℕ) (t : List ℕ) (k : ℕ) → OccursAt t end k → OccursAt (c ∷ t) end (suc k)
before c t k occurs = grind arith

-- up to the CR of the first CR LF
run_before : (last : ℕ → List ℕ) (t : List ℕ) (k : ℕ)
    → Nowhere (OccursAt t end) 0 k → OccursAt t end k
    → with_feeds last t ≡ take k t ++ with_feeds last (drop 1 (drop k t))
run_before last [] k none at = absurd (omega (arith, at.fits))
run_before last (c ∷ []) k none at = absurd (omega (arith, at.fits))
run_before last (c ∷ d ∷ cs) zero none at =
    let at_cr : c ≡ 13 = at.reads 0 (omega arith) in
    let at_lf : d ≡ 10 = at.reads 1 (omega arith) in
    grind arith
run_before last (c ∷ d ∷ cs) (suc k) none at =
    keeps last c d cs
    (λ at_cr at_lf. none 0 (omega arith) (omega arith) (at_front c d cs at_cr at_lf))
    ∙ ap (λ t. c ∷ t)
    (run_before last (d ∷ cs) k
    (λ j low high occurs. none (suc j) (omega arith) (omega (arith, high))
    (before c (d ∷ cs) j occurs)) (later c (d ∷ cs) k at))

-- what was put in, and the run up to the first CR LF
pub run_more : (text done t needle run behind : List ℕ) (k : ℕ) → needle ≡ end
    → NoneBefore (OccursAt t needle) 0 (length t + 1) k × OccursAt t needle k
    → run ≡ take k t → behind ≡ drop k t
    → ((last : ℕ → List ℕ) → done ++ with_feeds last t ≡ with_feeds last text)
    → (last : ℕ → List ℕ)
    → (done ++ run) ++ with_feeds last (take (length behind - 1) (drop 1 behind))
    ≡ with_feeds last text
run_more text done t needle run behind k is found front back held last =
    let here = subst (λ n. NoneBefore (OccursAt t n) 0 (length t + 1) k × OccursAt t n k) is
    found in
    grind (arith, length-drop 1 behind, take-length (drop 1 behind), append_assoc, run_before)

-- a rest without CR LF
rest_by_end : (last : ℕ → List ℕ) (t : List ℕ) → t ≢ []
    → Nowhere (OccursAt t end) 0 (length t + 1)
    → with_feeds last t ≡ take (length t - 1) t ++ last (get_or t (length t - 1) 0)
rest_by_end last [] some none = absurd (some refl)
rest_by_end last (c ∷ []) some none = refl
rest_by_end last (c ∷ d ∷ cs) some none =
    let whole = c ∷ d ∷ cs in
    keeps last c d cs
    (λ at_cr at_lf. none 0 (omega arith) (omega arith) (at_front c d cs at_cr at_lf))
    ∙ (ap (λ t. c ∷ t)
    (rest_by_end last (d ∷ cs) (λ nil. cc)
    (λ j low high occurs. none (suc j) (omega arith) (omega (arith, high))
    (before c (d ∷ cs) j occurs)))
    ∙ ap (λ k. take k whole ++ last (get_or whole k 0)) (sym (last_place c d cs)))

-- a rest before more is read
front_rest : (t : List ℕ) → Nowhere (OccursAt t end) 0 (length t + 1)
    → front_feeds t ≡ without_last_cr t
front_rest [] none = refl
front_rest (c ∷ cs) none =
    let t = c ∷ cs in
    let some : t ≢ [] = λ nil. cc in
    rest_by_end unless_cr t some none
    ∙ without_by t some (eqb (get_or t (length t - 1) 0) 13) refl

-- a part of a text before more is read
pub part_of_lines : (before : ℕ) (part held done rest last : List ℕ) → false ≡ eqb (length part) 0
    → held ≡ held_cr before (get_or part 0 0) → IsLastSegment part done rest
    → last ≡ without_last_cr rest → (held ++ done) ++ last ≡ lines_part before part
part_of_lines before [] held done rest last some held_is segment last_is = absurd (false≢true some)
part_of_lines before (c ∷ cs) held done rest last some held_is segment end_is =
    grind (arith, append_assoc, front_rest)
