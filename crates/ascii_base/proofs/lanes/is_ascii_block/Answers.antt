use Rattle.std.proofs.Common.{arith}
use Rattle.std.proofs.lemmas.Bool.{eqb-true}
use Rattle.ascii_base.proofs.LanesLemmas.{before_all, or_zero}
use Rattle.ascii_base.proofs.lanes.is_ascii_block.Goals as goal

pub returns : goal.returns
returns c none = grind (arith, or_zero, eqb-true, before_all)
