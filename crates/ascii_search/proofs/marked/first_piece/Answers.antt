use Rattle.std.proofs.Common.{arith, false, true}
use Rattle.ascii_search.proofs.MarkedLemmas.{cut_first, gap_run, piece_on}
use Rattle.ascii_search.proofs.marked.first_piece.Goals as goal
use Rattle.ascii_search.proofs.marked.first_piece.Goals.{else-bytes-lt-FEWEST, then-bytes-lt-FEWEST}

pub returns-then-marks-eq0-clause-end : goal.returns-then-marks-eq0-clause-end
returns-then-marks-eq0-clause-end g c =
    let text = c.args.bytes.now in
    let end = c.piece_end.result in
    elim c.if-bytes-lt-FEWEST.branch [
      | then-bytes-lt-FEWEST w ↦ grind arith
      | else-bytes-lt-FEWEST w ↦ piece_on g.C.Class.is text c.renewed-marks.result.at _ end
          (grind arith)
          (omega (arith, w.marked-is, w.saturating_sub-marked.ensures)) c.piece_end.ensures
    ]

pub returns-clause-end : goal.returns-clause-end
returns-clause-end g c = gap_run g.C.Class.is true c.args.bytes.now c.renewed-marks.result.at
    c.renewed-marks.result.mask c.lowest-place.result
    (c.renewed-marks.ensures.some c.if-marks-eq0.false) c.lowest-place.ensures

pub returns-clause-marks : goal.returns-clause-marks
returns-clause-marks g c = λ some more.
    cut_first g.C.Class.is true c.args.bytes.now c.renewed-marks.result.at
    c.renewed-marks.result.mask c.lowest-place.result
    (c.renewed-marks.ensures.some c.if-marks-eq0.false) c.lowest-place.ensures
