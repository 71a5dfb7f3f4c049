use Rattle.std.proofs.Common.{arith}
use Rattle.ascii_search.proofs.MarkedLemmas.{cut_before}
use Rattle.ascii_search.proofs.marked.marks_to.Goals as goal

pub returns : goal.returns
returns g c = λ _. cut_before g.C.Class.is _ c.args.bytes.now c.args.marks.at c.args.marks.mask
    c.args.len c.requires.room (c.requires.marks c.if-marks-eq0.false) (omega arith)
