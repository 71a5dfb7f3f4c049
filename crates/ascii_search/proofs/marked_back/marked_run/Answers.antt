use Rattle.ascii_search.proofs.MarkedBackLemmas.{far_run_back, near_run_back, some_start}
use Rattle.ascii_search.proofs.marked_back.marked_run.Goals as goal

pub highest-at-requires : goal.highest-at-requires
highest-at-requires g c = some_start c.args.marks.mask c.highest.result c.highest.ensures

pub returns-then-at-eq0 : goal.returns-then-at-eq0
returns-then-at-eq0 g c = far_run_back g.C.Class.is _ c.args.bytes.now c.args.marks.at
    c.args.marks.mask c.highest.result c.requires.marks c.highest.ensures c.highest-at.result
    c.highest-at.ensures c.if-at-eq0.true c.far_start.result c.none.result c.none.ensures
    c.far_start.ensures

pub returns : goal.returns
returns g c = rw c.bits_before.ensures (near_run_back g.C.Class.is _ c.args.bytes.now
    c.args.marks.at c.args.marks.mask c.highest.result c.requires.marks c.highest.ensures
    c.highest-at.result c.highest-at.ensures c.if-at-eq0.false)
