use Rattle.std.proofs.Common.{◌-◌, arith}
use Rattle.std.proofs.lemmas.Bool.{ne_eqb}
use Rattle.ascii_search.proofs.MarkedLemmas.{inside_of_outside, outside_of_two}
use Rattle.ascii_search.proofs.marked.marks_of_two.Goals as goal

pub returns-then-this-ne0 : goal.returns-then-this-ne0
returns-then-this-ne0 g c = rw (ne_eqb _ _ c.if-this-ne0.true) (inside_of_outside g.C.Class.is
    c.args.bytes.now (64 - c.args.count) _ (omega arith) (grind (arith, outside_of_two)))

pub returns-else-this-ne0 : goal.returns-else-this-ne0
returns-else-this-ne0 g c = rw c.if-this-ne0.false (grind (arith, outside_of_two))
