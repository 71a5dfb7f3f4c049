use Rattle.std.proofs.Common.{◌≡◌, ◌-◌, arith, drop, length, subst, sym}
use Rattle.std.proofs.lemmas.Grind.{common_steps}
use Rattle.ascii.specs.Lines.{LinesOf}
use Rattle.ascii.specs.View.{text_of}
use Rattle.cookbook.proofs.LastLinesLemmas.{lines_behind}
use Rattle.cookbook.proofs.last_lines.last_lines.Goals as goal

pub returns-clause-lines : goal.returns-clause-lines
returns-clause-lines c =
    let before = c.without_last_lines-front.ensures.lines in
    let lines = before.0 in
    let behind = lines_behind _ _ lines (length lines - c.args.n) before.1 before.2 in
    let text : text_of c.slice.result ≡ drop (length (text_of c.without_last_lines-front.result))
    (text_of c.args.view) = grind (arith, common_steps) in (
      lines,
      before.1,
      subst (λ t. LinesOf t (drop (length lines - c.args.n) lines)) (sym text)
          behind,
    )
