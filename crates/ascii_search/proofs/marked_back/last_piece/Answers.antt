use Rattle.std.proofs.Common.{◌-◌, arith, false, true}
use Rattle.ascii_search.proofs.MarkedBackLemmas.{cut_last, gap_run_back, piece_on_back}
use Rattle.ascii_search.proofs.marked_back.last_piece.Goals as goal
use Rattle.ascii_search.proofs.marked_back.last_piece.Goals.{else-bytes-lt-FEWEST}
use Rattle.ascii_search.proofs.marked_back.last_piece.Goals.{then-bytes-lt-FEWEST}

pub returns-then-marks-eq0-clause-start : goal.returns-then-marks-eq0-clause-start
returns-then-marks-eq0-clause-start g c =
    let text = c.args.bytes.now in
    let start = c.piece_start-start.result in
    elim c.if-bytes-lt-FEWEST.branch [
      | then-bytes-lt-FEWEST w ↦ grind arith
      | else-bytes-lt-FEWEST w ↦ piece_on_back g.C.Class.is text c.renewed-marks.result.at _
          start (grind arith) (omega (arith, w.marked-is)) (omega arith) c.piece_start-start.ensures
    ]

pub returns-clause-start : goal.returns-clause-start
returns-clause-start g c = gap_run_back g.C.Class.is true c.args.bytes.now
    c.renewed-marks.result.at c.renewed-marks.result.mask c.highest-place.result
    (c.renewed-marks.ensures.some c.if-marks-eq0.false) c.highest-place.ensures

pub returns-clause-marks : goal.returns-clause-marks
returns-clause-marks g c = λ some more. rw c.without_last.ensures
    (cut_last g.C.Class.is true c.args.bytes.now c.renewed-marks.result.at
    c.renewed-marks.result.mask c.highest-place.result
    (c.renewed-marks.ensures.some c.if-marks-eq0.false) c.highest-place.ensures)
