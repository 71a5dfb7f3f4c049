use Rattle.std.proofs.Common.{arith}
use Rattle.ascii_formats.proofs.DecimalsLemmas.{output_is}
use Rattle.ascii_formats.proofs.decimals.DecimalDisplay.fmt.Goals as goal
use Rattle.ascii_formats.proofs.decimals.DecimalDisplay.fmt.Goals.{else-self, then-self}

pub returns-else-places-eq0-clause-writes : goal.returns-else-places-eq0-clause-writes
returns-else-places-eq0-clause-writes g c plain ok = grind (arith, then-self, else-self, output_is)
