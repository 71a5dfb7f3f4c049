use Rattle.std.proofs.Common.{◌-◌, arith}
use Rattle.std.proofs.lemmas.Nat.{or_lt}
use Rattle.ascii_search.proofs.MarkedLemmas.{ends, far_run, near_run}
use Rattle.ascii_search.proofs.marked.marked_run.Goals as goal

pub returns-then-filled : goal.returns-then-filled
returns-then-filled g c = far_run g.C.Class.is _ c.args.bytes.now c.args.marks.at c.args.marks.mask
    c.lowest.result c.requires.marks c.lowest.ensures c.far_end.result c.none.result c.none.ensures
    c.if-filled.true c.far_end.ensures

pub overflow_add-past : goal.overflow_add-past
overflow_add-past g c = record {
  fits = omega (
    arith,
    or_lt 64 c.args.marks.mask (c.args.marks.mask - 1) (omega arith) (omega arith),
    c.if-filled.false,
  );
}

pub overflow_sub-result : goal.overflow_sub-result
overflow_sub-result g c = ends g.C.Class.is _ c.args.bytes.now c.args.marks.at c.args.marks.mask
    c.lowest.result c.requires.marks c.lowest.ensures c.lowest-stop.result c.lowest-stop.ensures

pub returns : goal.returns
returns g c = grind (arith, near_run)
