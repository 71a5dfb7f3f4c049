use Rattle.std.proofs.Common.{◌≡◌, ◌∷◌, [], arith, subst}
use Rattle.ascii.specs.Spans.{LineSpansOf, line_in, line_size}
use Rattle.ascii.specs.View.{text_of}
use Rattle.ascii.proofs.CallerLemmas.{last_of_line_spans}
use Rattle.tests_callers.proofs.LastLemmas.{same_start}
use Rattle.tests_callers.proofs.remainders.last_line_span.Goals as goal

pub returns : goal.returns
returns c =
    let text = text_of c.args.view in
    let others = text_of c.in_ok-_start.others in
    let last = line_in c.in_ok-last.last in
    let left = c.next_back.new.self in
    let rest = c.in_ok-_start.ensures.remainder in
    let whole = subst (LineSpansOf 0 text) c.in_ok-last.ensures.steps.0
    c.line_spans-lines.ensures.iterates.spans in
    let first : c.in_ok-_start._start ≡ 0 = same_start line_size c.in_ok-_start._start 0 left
    (last ∷ []) rest.1 rest.0.starts whole.starts in
    let at = last_of_line_spans 0 text others last left whole
    (subst (λ s. LineSpansOf s others left) first rest.0) in
    (omega (arith, at.0), at.1)
