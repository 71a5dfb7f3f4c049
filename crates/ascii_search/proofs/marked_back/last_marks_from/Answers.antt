use Rattle.std.proofs.Common.{arith}
use Rattle.ascii_search.proofs.MarkedBackLemmas.{cut_after}
use Rattle.ascii_search.proofs.marked_back.last_marks_from.Goals as goal

pub returns : goal.returns
returns g c = λ _. cut_after g.C.Class.is _ c.args.bytes.now c.args.marks.at c.args.marks.mask
    c.args.start c.requires.room (c.requires.marks c.if-marks-eq0.false) (omega arith)
