use Rattle.std.proofs.Common.{◌≡◌, ◌++◌, ◌∷◌, []}
use Rattle.std.proofs.Math.Seq.{take-append_seam}
use Rattle.ascii.specs.Found.{part_in}
use Rattle.ascii.specs.View.{text_of}
use Rattle.ascii.proofs.SpansLemmas.{line_spans_last_ended, line_spans_last_open}
use Rattle.ascii.proofs.iter.cursor.Cursor.last_line.Goals as goal

pub returns-then-last-eq10-clause-lines : goal.returns-then-last-eq10-clause-lines
returns-then-last-eq10-clause-lines c =
    let text = text_of c.args.self.view in
    let front = c.in_ok-last.front.now in
    let whole : text ≡ front ++ 10 ∷ [] = rw c.if-last-eq10.true at c.in_ok-last.ensures.cases.0 in
    let cut : text_of c.to.result.view ≡ front = rw (c.to.ensures.text, whole, take-append_seam) in
    line_spans_last_ended (part_in c.args.self) c.to.result _ _ (rw cut whole) c.to.ensures.start
    c.split_after_last.ensures c.terminated_line.ensures.line

pub returns-else-last-eq10-clause-lines : goal.returns-else-last-eq10-clause-lines
returns-else-last-eq10-clause-lines c =
    line_spans_last_open (part_in c.args.self) c.in_ok-last.front.now c.in_ok-last.last.now _ _
    c.in_ok-last.ensures.cases.0 c.if-last-eq10.false
    c.split_after_last-else-last-eq10.ensures c.unterminated_line.ensures.line
