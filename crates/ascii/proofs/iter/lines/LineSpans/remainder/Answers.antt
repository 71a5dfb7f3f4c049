use Rattle.std.proofs.Common.{◌∙◌, rules}
use Rattle.ascii.specs.Found.{part_in}
use Rattle.ascii.proofs.SpansLemmas.{line_spans_found, line_spans_some}
use Rattle.ascii.proofs.iter.lines.LineSpans.remainder.Goals as goal

pub returns-clause-remainder : goal.returns-clause-remainder
returns-clause-remainder c =
    let part = part_in c.self.inside.cursor in
    let now_is = c.self.view_is in (
      rw now_is at (line_spans_found part),
      λ none. line_spans_some part (search rules) (now_is ∙ none),
    )
