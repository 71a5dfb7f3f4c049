use Rattle.std.proofs.Common.{arith}
use Rattle.ascii_search.proofs.MarkedBackLemmas.{last_marks}
use Rattle.ascii_search.proofs.marked_back.renewed.Goals as goal

pub returns-clause-some : goal.returns-clause-some
returns-clause-some g c = λ _. last_marks g.C.Class.is _ c.args.bytes.now c.short_marks.result
    (omega arith) c.short_marks.ensures

pub returns-clause-any : goal.returns-clause-any
returns-clause-any g c = λ _. last_marks g.C.Class.is _ c.args.bytes.now c.short_marks.result
    (omega arith) c.short_marks.ensures
