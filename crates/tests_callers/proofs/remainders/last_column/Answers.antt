use Rattle.std.proofs.Common.{◌≡◌, ◌∙◌, ◌∷◌, [], ap, arith, subst}
use Rattle.ascii.specs.Code.{code_of}
use Rattle.ascii.specs.Spans.{PieceSpans, items_of, piece_in, piece_size}
use Rattle.ascii.specs.View.{text_of}
use Rattle.ascii.proofs.CallerLemmas.{last_of_piece_spans}
use Rattle.tests_callers.proofs.LastLemmas.{same_start}
use Rattle.tests_callers.proofs.remainders.last_column.Goals as goal

pub returns : goal.returns
returns c =
    let on = code_of c.args.on in
    let row = text_of c.args.row in
    let others = text_of c.in_ok-_start.others in
    let start = c.in_ok-_start._start in
    let last = piece_in c.in_ok-last.last in
    let left = c.next_back.new.self in
    let steps = c.in_ok-last.ensures.steps in
    let found = c.split_spans-columns.ensures.iterates in
    let whole = subst (PieceSpans 0 row on) steps.0 found.spans in
    let remains = c.in_ok-_start.ensures.remainder in
    let rest = subst (λ o. PieceSpans start others o left.items) (steps.1.0 ∙ found.separator) remains.1 in
    let first : start ≡ 0 = same_start piece_size start 0 left.items (last ∷ [])
    (λ none. rest.pieces.some (ap items_of none)) rest.starts whole.starts in
    let at = last_of_piece_spans 0 on row others last left.items whole
    (subst (λ s. PieceSpans s others on left.items) first rest) in
    (omega (arith, at.0), at.1)
