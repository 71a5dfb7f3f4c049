use Rattle.std.proofs.Common.{arith}
use Rattle.ascii_base.proofs.LanesLemmas.{mark_more, mark_none}
use Rattle.ascii_base.proofs.classes.marks_one_by_one.Goals.{then-not-has, else-not-has}
use Rattle.ascii_base.proofs.classes.marks_one_by_one.Goals as goal

pub loop-k-preserved : goal.loop-k-preserved
loop-k-preserved g c = grind (arith, then-not-has, mark_more, else-not-has, mark_none)
