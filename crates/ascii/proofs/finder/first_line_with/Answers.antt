use Rattle.std.proofs.Common.{◌∙◌, arith}
use Rattle.ascii.specs.Found.{part_in}
use Rattle.ascii.specs.Spans.{line_in}
use Rattle.ascii.proofs.LinesWithLemmas.{fewer_lines, line_kept, line_left_out, lines_with_nowhere}
use Rattle.ascii.proofs.LinesWithLemmas.{no_line}
use Rattle.ascii.proofs.finder.first_line_with.Goals as goal

pub loop-place-preserved : goal.loop-place-preserved
loop-place-preserved g c = c.loop-place.invariant ∙ line_left_out g.F.AnyFinder.image
    g.met.F.AnyFinder.by_codes (g.F.AnyFinder.wanted c.args.finder.now) c.in-Some.place
    (part_in c.loop-place.left) (part_in c.from_line_at.result) c.in-Some.ensures
    c.from_line_at.ensures (line_in c.in_ok-line.line) (part_in c.in_ok-line.others)
    c.in_ok-line.ensures.lines (omega (arith, c.needle_len.ensures))

pub loop-place-smaller : goal.loop-place-smaller
loop-place-smaller g c = fewer_lines g.F.AnyFinder.image g.met.F.AnyFinder.by_codes
    (g.F.AnyFinder.wanted c.args.finder.now) c.in-Some.place (part_in c.loop-place.left)
    (part_in c.from_line_at.result) c.in-Some.ensures c.from_line_at.ensures
    (line_in c.in_ok-line.line) (part_in c.in_ok-line.others) c.in_ok-line.ensures.lines

pub returns-then-end-line-clause-lines : goal.returns-then-end-line-clause-lines
returns-then-end-line-clause-lines g c = c.loop-place.invariant ∙ line_kept g.F.AnyFinder.image
    g.met.F.AnyFinder.by_codes (g.F.AnyFinder.wanted c.args.finder.now) c.in-Some.place
    (part_in c.loop-place.left) (part_in c.from_line_at.result) c.in-Some.ensures
    c.from_line_at.ensures (line_in c.in_ok-line.line) (part_in c.in_ok-line.others)
    c.in_ok-line.ensures.lines (omega (arith, c.needle_len.ensures))

pub returns-in_err-line-clause-lines : goal.returns-in_err-line-clause-lines
returns-in_err-line-clause-lines g c = rw c.from_residual.ensures (c.loop-place.invariant ∙ no_line
    g.F.AnyFinder.image g.met.F.AnyFinder.by_codes (g.F.AnyFinder.wanted c.args.finder.now)
    c.in-Some.place (part_in c.loop-place.left) (part_in c.from_line_at.result)
    c.in-Some.ensures c.from_line_at.ensures c.in_err-line.ensures.lines)

pub returns-clause-lines : goal.returns-clause-lines
returns-clause-lines g c = c.loop-place.invariant ∙ lines_with_nowhere g.F.AnyFinder.image
    g.met.F.AnyFinder.by_codes (g.F.AnyFinder.wanted c.args.finder.now)
    (part_in c.loop-place.left) c.in_default.ensures
