-- The lines of a text by each kind of ending, and the line of some bytes.
use Rattle.std.proofs.Common.{◌≡◌, ◌≢◌, ℕ, zero, suc, ◌+◌, ◌-◌, ◌<◌, List, [], ◌∷◌, ◌++◌, length}
use Rattle.std.proofs.Common.{◌≤◌, length-append, get_or, take, refl, sym, ap, subst, ◌∙◌, arith}
use Rattle.std.proofs.Common.{inl, inr, append-nil}
use Rattle.std.proofs.Math.ListN.{get_or-append}
use Rattle.std.proofs.lemmas.Grind.{common_steps}
use Rattle.std.specs.List.{All, Contains, flat_map}
use Rattle.std.proofs.lemmas.List.{get_or_default}
use Rattle.std.proofs.lemmas.Bool.{cases_eq, cases_lt}
use Rattle.std.proofs.lemmas.List.Elements.{All-cons, All-nil, All-tail}
use Rattle.ascii.specs.declared.iter.spans.Ending.{Ending}
use Rattle.ascii.specs.declared.iter.spans.Ending.TheVariants as ending
use Rattle.ascii.specs.Found.{line_spans}
use Rattle.ascii.specs.Lines.{Line, MayFollow, ending_text, line_text, IsBody, IsCrLfAt, MayEnd}
use Rattle.ascii.specs.Lines.{LinesEndedBy}
use Rattle.ascii.specs.Spans.{WithStart, items_of, line_size, LineSpansEndedBy}
use Rattle.ascii.proofs.LinesLemmas.{LinesEndedBy-cons, LinesEndedBy-nil}
use Rattle.ascii_base.proofs.ListLemmas.{front_is}
use Rattle.ascii.proofs.SpansLemmas.{items-with_starts, line_spans_found}
use Rattle.ascii.specs.declared.iter.spans.Endings.{Endings}
use Rattle.ascii.specs.declared.iter.spans.Endings.TheVariants.{Any, CrLf, CrLfStrict}
use Rattle.ascii.specs.Endings.{FreeUpTo, IsOneLine, any_text}

-- an ending that may follow a body by a kind may follow it
pub MayFollow-ended : (kind : Endings) (end : Ending) (body : List ℕ) → MayEnd kind end body
    → MayFollow end body
MayFollow-ended kind end body may = grind arith

-- ---- a text has lines by CR LF

-- past the end there is no LF
pub feed_inside : (text : List ℕ) (k : ℕ) → get_or text k 0 ≡ 10 → k < length text
feed_inside [] k is = absurd (omega (arith, is))
feed_inside (x ∷ text) zero is = omega arith
feed_inside (x ∷ text) (suc k) is = omega (arith, feed_inside text k is)

-- ---- one byte more before the lines by CR LF

tail_body : (b : ℕ) (body : List ℕ) → IsBody CrLf (b ∷ body) → IsBody CrLf body
tail_body b body free zero = λ is. absurd (omega (arith, is.0, is.1))
tail_body b body free (suc k) = λ is.
    let at : suc k - 1 ≡ k = omega arith in
    let next : suc (suc k) - 1 ≡ suc k = omega arith in
    free (suc (suc k)) (rw next (rw at at is.0), is.1)

more_body : (b : ℕ) (body : List ℕ) → ¬ ((b ≡ 13) × (get_or body 0 0 ≡ 10)) → IsBody CrLf body
    → IsBody CrLf (b ∷ body)
more_body b body other free is = grind arith

more_end : (b : ℕ) (body : List ℕ) (end : Ending) → MayEnd CrLf end body
    → MayEnd CrLf end (b ∷ body)
more_end b body end may = grind arith

first_ended : (line next : Line) (lines : List Line)
    → All (λ one. one.ending ≢ ending.Absent)
    (take (length (line ∷ next ∷ lines) - 1) (line ∷ next ∷ lines))
    → All (λ one. one.ending ≢ ending.Absent)
    (line ∷ take (length (next ∷ lines) - 1) (next ∷ lines))
first_ended line next lines ended =
    subst (All (λ one. one.ending ≢ ending.Absent)) (front_is line next lines) ended

-- the first line is the last one if it has no ending, and the others are lines
pub last_if_absent : (line : Line) (lines : List Line)
    → All (λ one. one.ending ≢ ending.Absent) (take (length (line ∷ lines) - 1) (line ∷ lines))
    → line.ending ≡ ending.Absent → lines ≡ []
last_if_absent line [] ended none = refl
last_if_absent line (next ∷ lines) ended none =
    absurd (first_ended line next lines ended 0 line (omega arith) none)

others_ended : (line : Line) (lines : List Line)
    → All (λ one. one.ending ≢ ending.Absent) (take (length (line ∷ lines) - 1) (line ∷ lines))
    → All (λ one. one.ending ≢ ending.Absent) (take (length lines - 1) lines)
others_ended line [] ended = All-nil _
others_ended line (next ∷ lines) ended = All-tail (λ one. one.ending ≢ ending.Absent) line
    (take (length (next ∷ lines) - 1) (next ∷ lines)) (first_ended line next lines ended)

pub LinesEndedBy-tail : (kind : Endings) (line : Line) (text : List ℕ) (lines : List Line)
    → LinesEndedBy kind text (line ∷ lines) → LinesEndedBy kind (flat_map line_text lines) lines
LinesEndedBy-tail kind line text lines held = record {
  bodies = All-tail (λ one. IsBody kind one.body) line lines held.bodies;
  endings = All-tail (λ one. MayEnd kind one.ending one.body) line lines held.endings;
  ended = others_ended line lines held.ended;
  joined = refl;
}

-- another first line, by its body and its ending
change_first : (kind : Endings) (line new : Line) (text : List ℕ) (lines : List Line)
    → LinesEndedBy kind text (line ∷ lines) → IsBody kind new.body → MayEnd kind new.ending new.body
    → new.ending ≡ line.ending
    → LinesEndedBy kind (line_text new ++ flat_map line_text lines) (new ∷ lines)
change_first kind line new text lines held body may same =
    LinesEndedBy-cons kind new (flat_map line_text lines) lines body may
    (λ none. last_if_absent line lines held.ended (sym same ∙ none))
    (LinesEndedBy-tail kind line text lines held)

-- an empty line before lines
before_empty : (text : List ℕ) (lines : List Line) → LinesEndedBy CrLf text lines
    → LinesEndedBy CrLf (13 ∷ 10 ∷ text) (record { body = []; ending = ending.CrLf } ∷ lines)
before_empty text lines held = grind (arith, LinesEndedBy-cons)

-- a CR before a text whose first line begins with LF
after_cr : (body : List ℕ) (end : Ending) (text : List ℕ) (lines : List Line)
    → get_or body 0 0 ≡ 10 → LinesEndedBy CrLf text (record { body = body; ending = end } ∷ lines)
    → (found : List Line) × LinesEndedBy CrLf (13 ∷ text) found
after_cr [] end text lines feed held = absurd (omega (arith, feed))
after_cr (x ∷ rest) ending.Lf text lines feed held =
    absurd (held.endings 0 (record { body = x ∷ rest; ending = ending.Lf }) (omega arith))
after_cr (x ∷ rest) ending.CrLf text lines feed held =
    let old : Line = record { body = x ∷ rest; ending = ending.CrLf } in
    let new : Line = record { body = rest; ending = ending.CrLf } in
    let whole : 13 ∷ 10 ∷ (line_text new ++ flat_map line_text lines) ≡ 13 ∷ text = grind arith in (
      record { body = []; ending = ending.CrLf } ∷ new ∷ lines,
      subst (λ t. LinesEndedBy CrLf t (record { body = []; ending = ending.CrLf } ∷ new ∷ lines))
          whole (before_empty (line_text new ++ flat_map line_text lines) (new ∷ lines)
          (change_first CrLf old new text lines held
          (tail_body x rest (held.bodies 0 old (omega arith))) tt refl)),
    )
after_cr (x ∷ []) ending.Absent text lines feed held =
    let old : Line = record { body = x ∷ []; ending = ending.Absent } in
    let none : lines ≡ [] = last_if_absent old lines held.ended refl in
    let whole : 13 ∷ 10 ∷ [] ≡ 13 ∷ text = grind arith in (
      record { body = []; ending = ending.CrLf } ∷ [],
      grind (arith, before_empty, LinesEndedBy-nil),
    )
after_cr (x ∷ y ∷ rest) ending.Absent text lines feed held =
    let old : Line = record { body = x ∷ y ∷ rest; ending = ending.Absent } in
    let new : Line = record { body = y ∷ rest; ending = ending.Absent } in
    let whole : 13 ∷ 10 ∷ (line_text new ++ flat_map line_text lines) ≡ 13 ∷ text = grind arith in (
      record { body = []; ending = ending.CrLf } ∷ new ∷ lines,
      subst (λ t. LinesEndedBy CrLf t (record { body = []; ending = ending.CrLf } ∷ new ∷ lines))
          whole (before_empty (line_text new ++ flat_map line_text lines) (new ∷ lines)
          (change_first CrLf old new text lines held
          (tail_body x (y ∷ rest) (held.bodies 0 old (omega arith))) (λ none. cc) refl)),
    )

-- a byte before lines, of which the first does not go on from it with LF
add_byte : (b : ℕ) (line : Line) (text : List ℕ) (lines : List Line)
    → ¬ ((b ≡ 13) × (get_or line.body 0 0 ≡ 10)) → LinesEndedBy CrLf text (line ∷ lines)
    → (found : List Line) × LinesEndedBy CrLf (b ∷ text) found
add_byte b line text lines other held =
    let new : Line = record { body = b ∷ line.body; ending = line.ending } in (
      new ∷ lines,
      subst (λ t. LinesEndedBy CrLf t (new ∷ lines)) (ap (λ t. b ∷ t) held.joined)
          (change_first CrLf line new text lines held
          (more_body b line.body other (held.bodies 0 line (omega arith)))
          (more_end b line.body line.ending (held.endings 0 line (omega arith))) refl),
    )

more_lines : (b : ℕ) (text : List ℕ) (lines : List Line) → LinesEndedBy CrLf text lines
    → (found : List Line) × LinesEndedBy CrLf (b ∷ text) found
more_lines b text [] held =
    let one : Line = record { body = b ∷ []; ending = ending.Absent } in (
      one ∷ [],
      grind (arith, LinesEndedBy-cons, more_body, LinesEndedBy-nil),
    )
more_lines b text (line ∷ lines) held = elim (cases_eq b 13) [
  | inr other ↦ add_byte b line text lines (λ is. other is.0) held
  | inl cr ↦ elim (cases_eq (get_or line.body 0 0) 10) [
    | inr other ↦ add_byte b line text lines (λ is. other is.1) held
    | inl feed ↦ grind (arith, after_cr line.body line.ending text lines feed held)
  ]
]

pub some_cr_lf_lines : (text : List ℕ) → (lines : List Line) × LinesEndedBy CrLf text lines
some_cr_lf_lines [] = ([], LinesEndedBy-nil CrLf)
some_cr_lf_lines (b ∷ text) =
    let later = some_cr_lf_lines text in more_lines b text later.0 later.1

-- ---- a text has lines

cr_lf_spans : (start : ℕ) (text : List ℕ)
    → (spans : List (WithStart Line)) × LineSpansEndedBy CrLf start text spans
cr_lf_spans start text =
    let found = some_cr_lf_lines text in
    let alone = sym (items-with_starts line_size start found.0) in grind arith

pub some_spans : (kind : Endings) (start : ℕ) (text : List ℕ)
    → (spans : List (WithStart Line)) × LineSpansEndedBy (any_text kind) start text spans
some_spans Any start text =
    let part : WithStart (List ℕ) = record { start = start; item = text } in
    (line_spans part, line_spans_found part)
some_spans kind start text = grind (arith, cr_lf_spans)

-- a body with neither CR nor LF has no CR LF
pub cr_lf_body : (body : List ℕ) → IsBody CrLfStrict body → IsBody CrLf body
cr_lf_body body strict k is =
    let high : k < length body = feed_inside body k is.1 in
    strict.0 (k, high, get_or_default body k 10 0 high ∙ is.1)

pub cr_lf_end : (end : Ending) (body : List ℕ) → MayEnd CrLfStrict end body → MayEnd CrLf end body
cr_lf_end end body may = grind arith

-- lines by a kind are lines by the endings by which any text has some
pub any_text_lines : (kind : Endings) (text : List ℕ) (lines : List Line)
    → LinesEndedBy kind text lines → LinesEndedBy (any_text kind) text lines
any_text_lines kind text lines held = grind (arith, cr_lf_body, cr_lf_end)

pub any_text_spans : (kind : Endings) (start : ℕ) (text : List ℕ) (spans : List (WithStart Line))
    → LineSpansEndedBy kind start text spans → LineSpansEndedBy (any_text kind) start text spans
any_text_spans kind start text spans held =
    grind (arith, any_text_lines kind text (items_of spans) held.lines)

-- ---- the line of bytes by CR LF

-- such a text is its body and CR LF
cr_lf_parts : (line : List ℕ) → 2 ≤ length line → get_or line (length line - 2) 0 ≡ 13
    → get_or line (length line - 1) 0 ≡ 10 → take (length line - 2) line ++ 13 ∷ 10 ∷ [] ≡ line
cr_lf_parts line long cr feed = grind (arith, common_steps)

module _ (start : ℕ) (line body : List ℕ) (one : IsOneLine CrLf line) where
  -- bytes that end no line are the last line
  pub open_line : body ≡ line → ¬ (IsCrLfAt line (length line - 1))
      → LineSpansEndedBy CrLf start line
      (record { start = start; item = record { body = body; ending = ending.Absent } } ∷ [])
  open_line is other =
      let free : IsBody CrLf line = grind (arith, cases_lt, feed_inside) in
      grind (arith, append-nil, LinesEndedBy-cons, LinesEndedBy-nil)

  -- bytes that end in CR LF are the line before it
  pub closed_line : body ≡ take (length line - 2) line → IsCrLfAt line (length line - 1)
      → LineSpansEndedBy CrLf start line
      (record { start = start; item = record { body = body; ending = ending.CrLf } } ∷ [])
  closed_line is ends =
      let whole : body ++ 13 ∷ 10 ∷ [] ≡ line = grind (arith, cr_lf_parts) in
      let long : length body + 2 ≡ length line = grind (arith, length-append) in
      grind (arith, feed_inside, get_or-append, append-nil, LinesEndedBy-cons, LinesEndedBy-nil)

-- ---- by CR LF strictly

no_code : (xs : List ℕ) (c : ℕ) → ((k : ℕ) → k < length xs → get_or xs k 0 ≢ c)
    → ¬ (Contains xs c)
no_code xs c none found = grind (arith, get_or_default)

-- the body of a line, which is its front, has neither CR nor LF
clean_body : (line body : List ℕ) (n : ℕ) → length body ≡ n
    → ((k : ℕ) → k < n → get_or line k 0 ≡ get_or body k 0)
    → ((k : ℕ) → k < n → get_or line k 0 ≢ 10) → ((k : ℕ) → k < n → get_or line k 0 ≢ 13)
    → IsBody CrLfStrict body
clean_body line body n long same no_feed no_cr =
    grind (arith, no_code body 10 (grind arith), no_code body 13 (grind arith))

-- bytes that stop at no earlier byte have no CR but the last
pub no_cr_below : (line : List ℕ) (n k : ℕ) → FreeUpTo CrLfStrict line n → k + 1 < n
    → get_or line k 0 ≢ 13
no_cr_below line n k free low is =
    let back : k + 1 - 1 ≡ k = omega arith in
    free (k + 1) low (inr (omega arith, subst (λ j. get_or line j 0 ≡ 13) (sym back) is))

-- the body of a strict line
strict_body : (line body : List ℕ) (end : Ending) → body ++ ending_text end ≡ line
    → IsBody CrLf body → MayEnd CrLf end body → IsOneLine CrLfStrict line → IsBody CrLfStrict body
strict_body line body ending.Lf whole free may one = absurd may
strict_body line body ending.CrLf whole free may one =
    let long : length body + 2 ≡ length line = grind (arith, length-append) in
    clean_body line body (length body) refl
    (λ k low. ap (λ t. get_or t k 0) (sym whole) ∙ get_or-append body (13 ∷ 10 ∷ []) 0 k low)
    (λ k low is. one.1 k (omega (arith, low, long)) (inl is))
    (λ k low. no_cr_below line (length line - 1) k one.1 (omega (arith, low, long)))
strict_body line body ending.Absent whole free may one =
    let is : body ≡ line = sym (append-nil body) ∙ whole in
    elim one.2 [
      | inl ends ↦ grind arith
      | inr open_end ↦ clean_body line body (length body) refl
          (λ k low. ap (λ t. get_or t k 0) (sym is)) (grind (arith, cases_lt))
          (λ k low cr. elim (cases_lt (k + 1) (length line - 1)) [
            | inl before ↦ no_cr_below line (length line - 1) k one.1 before cr
            | inr after ↦ grind (arith, cases_lt)
          ])
    ]

strict_end : (end : Ending) (body : List ℕ) → MayEnd CrLf end body → MayEnd CrLfStrict end body
strict_end end body may = grind arith

-- a line by CR LF, of bytes with no lone CR or LF, is a line by CR LF strictly
pub strict_line : (start : ℕ) (line : List ℕ) (span : WithStart Line)
    → LineSpansEndedBy CrLf start line (span ∷ []) → IsOneLine CrLfStrict line
    → LineSpansEndedBy CrLfStrict start line (span ∷ [])
strict_line start line span held one =
    grind (arith, append-nil, All-cons, strict_body, All-nil, strict_end)
