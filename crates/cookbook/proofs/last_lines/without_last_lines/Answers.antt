use Rattle.std.proofs.Common.{◌≡◌, ◌-◌, arith, drop, length, subst, take}
use Rattle.std.proofs.lemmas.Grind.{common_steps}
use Rattle.std.specs.List.{flat_map}
use Rattle.ascii.specs.Lines.{LinesOf, line_text}
use Rattle.ascii.specs.View.{text_of}
use Rattle.cookbook.proofs.LastLinesLemmas.{lines_joined}
use Rattle.cookbook.proofs.last_lines.without_last_lines.Goals as goal

pub returns-clause-prefix : goal.returns-clause-prefix
returns-clause-prefix c =
    let lines = c.lines-lines.result in
    let k = length lines - c.args.n in
    let left : c.loop-test.lines ≡ take k lines = grind (arith, common_steps) in
    let before = subst (λ ls. LinesOf (text_of c.remaining_text.result) ls) left
    c.remaining_text.ensures in (
      flat_map line_text (drop k lines),
      lines_joined _ _ lines k
          c.lines-lines.ensures.iterates.lines before,
    )
