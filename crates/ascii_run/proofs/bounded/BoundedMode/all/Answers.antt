use Rattle.std.proofs.Common.{arith, refl}
use Rattle.ascii_run.specs.declared.bounded.BoundedMode.TheVariants.{Copy, Lines, Caret, Json}
use Rattle.ascii_run.specs.declared.bounded.BoundedMode.TheVariants.{Upper, Lower, Escape}
use Rattle.ascii_run.proofs.bounded.BoundedMode.all.Goals as goal

pub returns : goal.returns
returns c Copy = (0, omega arith, refl)
returns c Lines = (1, omega arith, refl)
returns c Caret = (2, omega arith, refl)
returns c Json = (3, omega arith, refl)
returns c Upper = (4, omega arith, refl)
returns c Lower = (5, omega arith, refl)
returns c Escape = (6, omega arith, refl)
