use Rattle.std.proofs.Common.{arith}
use Rattle.ascii_base.proofs.LanesLemmas.{marks_other}
use Rattle.ascii_base.proofs.kernels.marks_past.Goals as goal

pub returns-else-this-ne0 : goal.returns-else-this-ne0
returns-else-this-ne0 g c = rw c.if-this-ne0.false (grind (arith, marks_other))
