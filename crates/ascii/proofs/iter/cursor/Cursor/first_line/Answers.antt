use Rattle.std.proofs.Common.{◌≡◌, [], rules, arith}
use Rattle.std.proofs.Math.Seq.{drop-length}
use Rattle.ascii.specs.Found.{part_in}
use Rattle.ascii.specs.View.{text_of}
use Rattle.ascii.proofs.SpansLemmas.{line_spans_first, line_spans_open}
use Rattle.ascii.proofs.iter.cursor.Cursor.first_line.Goals as goal

pub returns-in-Some-clause-lines : goal.returns-in-Some-clause-lines
returns-in-Some-clause-lines c =
    line_spans_first _ _ _ c.in-Some.ensures
    c.terminated_line.ensures.line

pub returns-in-None-clause-lines : goal.returns-in-None-clause-lines
returns-in-None-clause-lines c =
    let none : text_of c.from.result.view ≡ [] = grind (arith, drop-length) in
    line_spans_open (part_in c.args.self) c.from.result _ c.in-None.ensures (search rules) none
    c.unterminated_line.ensures.line
