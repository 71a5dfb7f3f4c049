-- The last lines of a text, and the text before them.
use Rattle.std.proofs.Common.{◌≡◌, ◌≢◌, ℕ, ◌+◌, ◌-◌, ◌<◌, List, [], ◌++◌, Option, None, Some}
use Rattle.std.proofs.Common.{get_or, length, take, drop, sym, ap, subst, ◌∙◌, arith}
use Rattle.std.specs.List.{All, Contains, flat_map}
use Rattle.std.specs.Option.{UnwrapsOrElse}
use Rattle.std.proofs.lemmas.List.{get_or-drop, get_or-take, length-drop, length-take}
use Rattle.std.proofs.lemmas.List.{take-append-drop}
use Rattle.std.proofs.lemmas.List.Concat.{flat_map-append}
use Rattle.std.proofs.lemmas.List.Elements.{All-drop}
use Rattle.std.proofs.lemmas.List.Prefix.{front_rest}
use Rattle.ascii.specs.declared.ascii_str.AsciiStr.{AsciiStr}
use Rattle.ascii.specs.declared.iter.spans.Ending.TheVariants.{Absent}
use Rattle.ascii.specs.Lines.{IsRemainderOfLines, Line, LinesOf, MayFollow, line_text}
use Rattle.ascii.specs.View.{text_of}
use Rattle.ascii.proofs.LinesLemmas.{LinesOf-lines_of}

-- the first k lines and the others, one after the other
pub lines_joined : (text front : List ℕ) (lines : List Line) (k : ℕ) → LinesOf text lines
    → LinesOf front (take k lines)
    → front ++ flat_map line_text (drop k lines) ≡ text
lines_joined text front lines k of before =
    ap (λ t. t ++ flat_map line_text (drop k lines)) (sym before.joined)
    ∙ sym (flat_map-append line_text (take k lines) (drop k lines))
    ∙ ap (flat_map line_text) (take-append-drop k lines) ∙ of.joined

-- all but the last of the others are among all but the last
ended_behind : (lines : List Line) (k i : ℕ) (d : Line) → i < length (drop k lines) - 1
    → All (λ line. line.ending ≢ Absent) (take (length lines - 1) lines)
    → (get_or (drop k lines) i d).ending ≢ Absent
ended_behind lines k i d within ended =
    let all_within : k + i < length lines - 1 = omega (arith, length-drop k lines) in
    let short : k + i < length (take (length lines - 1) lines) =
    omega (arith, length-take (length lines - 1) lines) in
    rw get_or-drop
    (rw (get_or-take (length lines - 1) lines (k + i) d all_within) at
    (ended (k + i) d short))

-- the text after the first k lines has the others
pub lines_behind : (text front : List ℕ) (lines : List Line) (k : ℕ) → LinesOf text lines
    → LinesOf front (take k lines)
    → LinesOf (drop (length front) text) (drop k lines)
lines_behind text front lines k of before = record {
  bodies = All-drop (λ line. ¬ (Contains line.body 10)) k lines of.bodies;
  endings = All-drop (λ line. MayFollow line.ending line.body) k lines of.endings;
  ended = λ i d short.
      let n = length (drop k lines) - 1 in
      let within : i < n = omega (arith, length-take n (drop k lines)) in
      rw (get_or-take n (drop k lines) i d within) (ended_behind lines k i d within of.ended);
  joined = sym (front_rest text front _ (sym (lines_joined text front lines k of before)));
}

-- the remainder of lines, or the empty text if none remain
pub rest_or_nothing : (lines : List Line) (rest : Option AsciiStr) (view : AsciiStr)
    → IsRemainderOfLines lines rest
    → UnwrapsOrElse rest (λ v. text_of v ≡ []) view → LinesOf (text_of view) lines
rest_or_nothing lines None view nothing empty =
    subst (λ t. LinesOf t lines) (sym empty)
    (subst (λ ls. LinesOf [] ls) (sym nothing) (LinesOf-lines_of []))
rest_or_nothing lines (Some rest) view is same =
    subst (λ v. LinesOf (text_of v) lines) (sym same) is.0
