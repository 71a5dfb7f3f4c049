-- The lines of a text are one list, and how it breaks at either end.
use Rattle.std.proofs.Common.{append-nil, ◌≡◌, ◌≢◌, ℕ, ◌+◌, ◌-◌, ◌≤◌, true, false, eqb, List, []}
use Rattle.std.proofs.Common.{◌∷◌, ◌++◌, length, take, map, refl, sym, ap, ◌∙◌, subst, arith}
use Rattle.std.proofs.Common.{eqb-true, append_assoc}
use Rattle.std.specs.List.{All, Contains, flat_map, join_with_byte}
use Rattle.std.proofs.lemmas.List.Splits.{join_with_byte-slice_split}
use Rattle.std.proofs.lemmas.List.Elements.{All-cons, All-tail, All-nil, All-take, All-push}
use Rattle.std.proofs.lemmas.Bool.{false≢true, cond_both, cond-false, eqb-false, ne_eqb}
use Rattle.std.proofs.lemmas.List.{length_push, get_or_push, take_at, same_from_push}
use Rattle.ascii.proofs.PiecesLemmas.{pieces_of-split_at_first, HasNo-from_absent, absent-from_Free}
use Rattle.ascii.proofs.PiecesLemmas.{all_free, length-pieces_of, pieces_of-free, slice_split-joint}
use Rattle.ascii.proofs.PiecesLemmas.{slice_split-some}
use Rattle.std.proofs.lemmas.Option.{get_or_from_slice_get, slice_get-get_or}
use Rattle.std.proofs.lemmas.Grind.{common_steps}
use Rattle.ascii.specs.declared.iter.spans.Ending.{Ending}
use Rattle.ascii.specs.declared.iter.spans.Ending.TheVariants.{Lf, CrLf, Absent}
use Rattle.ascii.specs.Found.{HasNo, IsEndedBy, terminated_line, ends_in_cr, lines_of}
use Rattle.ascii.specs.Found.{lines_of_pieces, pieces_of}
use Rattle.ascii.specs.declared.iter.spans.Endings.{Endings}
use Rattle.ascii.specs.declared.iter.spans.Endings.TheVariants as by
use Rattle.ascii.specs.Lines.{IsBody, LinesEndedBy, MayEnd, EndsInCr, Line, LinesOf, MayFollow}
use Rattle.ascii.specs.Lines.{ending_text, line_text}
use Rattle.ascii_base.proofs.ListLemmas.{append-some, front_is}

-- the ending of a line may follow its body
abbrev Follows : Line → Type 0
Follows line = MayFollow line.ending line.body

-- ---- how the lines of pieces break

lines_of_pieces-append : (ps qs : List (List ℕ)) → qs ≢ []
    → lines_of_pieces (ps ++ qs) ≡ map terminated_line ps ++ lines_of_pieces qs
lines_of_pieces-append [] qs some = refl
lines_of_pieces-append (p ∷ []) [] some = absurd (some refl)
lines_of_pieces-append (p ∷ []) (q ∷ qs) some = refl
lines_of_pieces-append (p ∷ next ∷ ps) qs some =
    ap (λ ls. terminated_line p ∷ ls) (lines_of_pieces-append (next ∷ ps) qs some)

-- the first line is before the first LF
pub lines_of-split_at_first : (t a b : List ℕ) → t ≡ a ++ 10 ∷ b → HasNo 10 a
    → lines_of t ≡ terminated_line a ∷ lines_of b
lines_of-split_at_first t a b is free =
    grind (arith, pieces_of-split_at_first, lines_of_pieces-append, slice_split-some)

-- whole lines, and what comes after them
pub lines_of-behind : (a b : List ℕ) → IsEndedBy 10 a → lines_of (a ++ b) ≡ lines_of a ++ lines_of b
lines_of-behind a b is = grind (
  arith,
  append_assoc,
  append-nil,
  slice_split-joint,
  lines_of_pieces-append,
  slice_split-some,
)

-- ---- the line before a LF

-- the line before a LF, by what it ends in
ended_cases : (p : List ℕ) (P : Line → Type 0)
    → (ends_in_cr p ≡ true → P (record { body = take (length p - 1) p; ending = CrLf }))
    → (ends_in_cr p ≡ false → P (record { body = p; ending = Lf })) → P (terminated_line p)
ended_cases p P with_cr without_cr = cond_both (ends_in_cr p) _ _ P with_cr without_cr

-- a text that ends in CR
cr_end : (p : List ℕ) → ends_in_cr p ≡ true → p ≡ take (length p - 1) p ++ 13 ∷ []
cr_end p is = grind (arith, false≢true, eqb-true, common_steps)

-- the bytes of the line before a LF
pub line_text-ended : (p : List ℕ) → line_text (terminated_line p) ≡ p ++ 10 ∷ []
line_text-ended p = ended_cases p (λ line. line_text line ≡ p ++ 10 ∷ [])
    (λ is. sym (ap (λ xs. xs ++ 10 ∷ []) (cr_end p is)
    ∙ append_assoc (take (length p - 1) p) (13 ∷ []) (10 ∷ [])))
    (λ is. refl)

MayEnd-ended : (p : List ℕ) → Follows (terminated_line p)
MayEnd-ended p = grind (arith, ended_cases, eqb-false, get_or_from_slice_get)

terminated_line-has : (p : List ℕ) → (terminated_line p).ending ≢ Absent
terminated_line-has p = ended_cases p (λ line. line.ending ≢ Absent) (λ is none. cc) (λ is none. cc)

-- its body has no LF if the text has none
body-free : (p : List ℕ) → HasNo 10 p → HasNo 10 ((terminated_line p).body)
body-free p free = ended_cases p (λ line. HasNo 10 line.body)
    (λ is. All-take (λ code. eqb code 10 ≡ false) (length p - 1) p free) (λ is. free)

-- ---- the one list

-- a line before others, which has an ending unless there are none
pub LinesEndedBy-cons : (kind : Endings) (line : Line) (text : List ℕ) (lines : List Line)
    → IsBody kind line.body → MayEnd kind line.ending line.body
    → (line.ending ≡ Absent → lines ≡ []) → LinesEndedBy kind text lines
    → LinesEndedBy kind (line_text line ++ text) (line ∷ lines)
LinesEndedBy-cons kind line text lines body may last others = grind (arith, All-cons, front)
  where
    front : (ls : List Line) → (line.ending ≡ Absent → ls ≡ [])
        → All (λ one. one.ending ≢ Absent) (take (length ls - 1) ls)
        → All (λ one. one.ending ≢ Absent) (take (length (line ∷ ls) - 1) (line ∷ ls))
    front [] last ended = All-nil _
    front (next ∷ ls) last ended = grind (arith, front_is, All-cons)

pub LinesEndedBy-nil : (kind : Endings) → LinesEndedBy kind [] []
LinesEndedBy-nil kind = grind (arith, All-nil)

LinesOf-pieces : (ps : List (List ℕ)) → ps ≢ [] → All (HasNo 10) ps
    → LinesOf (join_with_byte 10 ps) (lines_of_pieces ps)
LinesOf-pieces [] some free = absurd (some refl)
LinesOf-pieces ([] ∷ []) some free = LinesEndedBy-nil by.Any
LinesOf-pieces ((x ∷ xs) ∷ []) some free =
    rw (append-nil ((x ∷ xs) ++ []), append-nil (x ∷ xs)) at (
    LinesEndedBy-cons by.Any (record { body = x ∷ xs; ending = Absent }) [] []
    (absent-from_Free 10 (x ∷ xs) (free 0 [] (omega arith)))
    (λ none. cc) (λ is. refl) (LinesEndedBy-nil by.Any))
LinesOf-pieces (p ∷ q ∷ qs) some free =
    rw (line_text-ended p, append_assoc) at
    (LinesEndedBy-cons by.Any (terminated_line p) _ _
    (absent-from_Free 10 ((terminated_line p).body) (body-free p (free 0 [] (omega arith))))
    (MayEnd-ended p)
    (λ is. absurd (terminated_line-has p is))
    (LinesOf-pieces (q ∷ qs) (λ none. cc) (All-tail (HasNo 10) p (q ∷ qs) free)))

-- the lines found are in the relation
pub LinesOf-lines_of : (t : List ℕ) → LinesOf t (lines_of t)
LinesOf-lines_of t = rw (join_with_byte-slice_split 10 t) at
    (LinesOf-pieces (pieces_of 10 t) (slice_split-some _ t) (all_free 10 t))

-- a body that does not end in CR, before LF
same_lf : (body : List ℕ) → ¬ (EndsInCr body)
    → terminated_line body ≡ record { body = body; ending = Lf }
same_lf [] not_cr = refl
same_lf (x ∷ xs) not_cr = grind (arith, cond-false, ne_eqb, slice_get-get_or)

-- a body before CR LF
same_cr : (body : List ℕ)
    → terminated_line (body ++ 13 ∷ []) ≡ record { body = body; ending = CrLf }
same_cr body = grind (arith, length_push, get_or_push, take_at)

-- a text without LF that is not empty is one line
pub lines_of-open : (t : List ℕ) → HasNo 10 t → t ≢ []
    → lines_of t ≡ record { body = t; ending = Absent } ∷ []
lines_of-open t free some = grind (arith, pieces_of-free)

-- a line is found again, before others or alone
found_line : (body : List ℕ) (ending : Ending) (others : List ℕ) → ¬ (Contains body 10)
    → MayFollow ending body → (ending ≡ Absent → others ≡ [])
    → lines_of ((body ++ ending_text ending) ++ others)
    ≡ record { body = body; ending = ending } ∷ lines_of others
found_line body Lf others absent may last = lines_of-split_at_first _ body others
    (append_assoc body (10 ∷ []) others) (HasNo-from_absent 10 body absent)
    ∙ ap (λ one. one ∷ lines_of others) (same_lf body may)
found_line body CrLf others absent may last = lines_of-split_at_first _ (body ++ 13 ∷ []) others
    (append_assoc body (13 ∷ 10 ∷ []) others ∙ sym (append_assoc body (13 ∷ []) (10 ∷ others)))
    (All-push (λ code. eqb code 10 ≡ false) body 13 (HasNo-from_absent 10 body absent) refl)
    ∙ ap (λ one. one ∷ lines_of others) (same_cr body)
found_line body Absent others absent may last =
    rw (last refl, append-nil (body ++ []), append-nil body)
    (lines_of-open body (HasNo-from_absent 10 body absent) may)

-- lines with such endings are found again when they are joined
lines_of-joined : (lines : List Line) → All (λ line. ¬ (Contains line.body 10)) lines
    → All Follows lines
    → All (λ line. line.ending ≢ Absent) (take (length lines - 1) lines)
    → lines_of (flat_map line_text lines) ≡ lines
lines_of-joined [] absent may ended = refl
lines_of-joined (line ∷ []) absent may ended = found_line line.body line.ending []
    (absent 0 line (omega arith)) (may 0 line (omega arith)) (λ is. refl)
lines_of-joined (line ∷ next ∷ others) absent may ended =
    let Ended : Line → Type 0 = λ one. one.ending ≢ Absent in
    let front = subst (All Ended) (front_is line next others) ended in
    found_line line.body line.ending (flat_map line_text (next ∷ others))
    (absent 0 line (omega arith)) (may 0 line (omega arith))
    (λ is. absurd (front 0 line (omega arith) is))
    ∙ ap (λ ls. line ∷ ls) (lines_of-joined (next ∷ others)
    (All-tail (λ one. ¬ (Contains one.body 10)) line (next ∷ others) absent)
    (All-tail Follows line (next ∷ others) may)
    (All-tail Ended line (take (length (next ∷ others) - 1) (next ∷ others)) front))

-- no other list is in the relation
pub LinesOf-only : (t : List ℕ) (lines : List Line) → LinesOf t lines → lines ≡ lines_of t
LinesOf-only t lines held = grind (arith, lines_of-joined)

-- ---- the lines at either end

-- the last line of a text that ends in LF comes after the LF before it
pub lines_of-last_ended : (t a b : List ℕ) → t ≡ a ++ b → IsEndedBy 10 a → HasNo 10 b
    → lines_of (t ++ 10 ∷ []) ≡ lines_of a ++ terminated_line b ∷ []
lines_of-last_ended t a b is whole free = rw (is, append_assoc) (
    lines_of-behind a (b ++ 10 ∷ []) whole
    ∙ ap (λ ls. lines_of a ++ ls) (lines_of-split_at_first _ b [] refl free))

-- the last line of a text that does not
pub lines_of-last_open : (t a b : List ℕ) → t ≡ a ++ b → IsEndedBy 10 a → HasNo 10 b → b ≢ []
    → lines_of t ≡ lines_of a ++ record { body = b; ending = Absent } ∷ []
lines_of-last_open t a b is whole free some = grind (arith, lines_of-behind, lines_of-open)

-- a text that ends in another code has no whole lines
pub not_whole : (front : List ℕ) (code : ℕ) → code ≢ 10 → ¬ (IsEndedBy 10 (front ++ code ∷ []))
not_whole front code other is = grind (arith, front, append-some, same_from_push)

-- a text that is not empty has a line
pub lines_of-some : (t : List ℕ) → t ≢ [] → lines_of t ≢ []
lines_of-some t some none = some (sym (LinesOf-lines_of t).joined ∙ ap (flat_map line_text) none)

-- there are at most as many lines as pieces
length-lines_of_pieces : (ps : List (List ℕ)) → length (lines_of_pieces ps) ≤ length ps
length-lines_of_pieces [] = omega arith
length-lines_of_pieces ([] ∷ []) = omega arith
length-lines_of_pieces ((x ∷ xs) ∷ []) = omega arith
length-lines_of_pieces (p ∷ q ∷ qs) = omega (arith, length-lines_of_pieces (q ∷ qs))

pub length-lines_of : (t : List ℕ) → length (lines_of t) ≤ length t + 1
length-lines_of t = omega (arith, length-lines_of_pieces (pieces_of 10 t), length-pieces_of 10 t)
