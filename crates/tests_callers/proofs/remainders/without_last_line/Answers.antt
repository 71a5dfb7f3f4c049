use Rattle.std.proofs.Common.{◌≡◌, ◌∙◌, ◌-◌, List, ◌∷◌, ◌++◌, [], None, Option, Some, ap, arith}
use Rattle.std.proofs.Common.{length, length-append, subst, sym, ℕ}
use Rattle.std.specs.Option.{IfSome}
use Rattle.std.proofs.lemmas.List.{length-map}
use Rattle.ascii.specs.Lines.{IsRemainderOfLines, Line, LinesOf, bodies, line_text}
use Rattle.ascii.specs.View.{text_of}
use Rattle.ascii.specs.declared.ascii_str.AsciiStr.{AsciiStr}
use Rattle.ascii.proofs.CallerLemmas.{last_of_lines}
use Rattle.tests_callers.proofs.LastLemmas.{ends_in_one}
use Rattle.tests_callers.proofs.remainders.without_last_line.Goals as goal

module _ (text : List ℕ) (left : List Line) (last : Line) where
  before_last : (result : Option AsciiStr) → LinesOf text (left ++ last ∷ [])
      → IsRemainderOfLines left result
      → IfSome result (λ others. (last : Line) × (text_of others ++ line_text last ≡ text))
  before_last None whole rest = tt
  before_last (Some others) whole rest =
      (last, last_of_lines text (text_of others) last left whole rest.0)

pub returns : goal.returns
returns c =
    let text = text_of c.args.view in
    let body = text_of c.in_ok-next_back.field-0 in
    let all = c.lines-lines.result in
    let left = c.next_back.new.self in
    let steps = c.in_ok-next_back.ensures.steps in
    let last = ends_in_one (length all - 1) all (omega (
      arith,
      ap length steps.0,
      length-append (bodies left) (body ∷ []),
      length-map all (λ (line : Line). line.body),
    )) in
    before_last text left last.0 c.remainder.result
    (subst (LinesOf text) (sym last.1 ∙ ap (λ lines. lines ++ last.0 ∷ []) (sym steps.1))
    c.lines-lines.ensures.iterates.lines) c.remainder.ensures
