use Rattle.std.proofs.Common.{arith, refl}
use Rattle.ascii_base.specs.Case.{lower_image}
use Rattle.ascii_search.proofs.MasksLemmas.{exact}
use Rattle.ascii_search.proofs.short_search.IgnoringCaseComparison.is_there.Goals as goal

pub returns-then-needle-le-EXACT : goal.returns-then-needle-le-EXACT
returns-then-needle-le-EXACT c = (
  λ t. exact lower_image c.args.hay.now c.args.needle.now c.args.position c.requires.some
      (omega (arith, c.if-needle-le-EXACT.true)) c.requires.candidate,
  λ occurs. refl,
)
