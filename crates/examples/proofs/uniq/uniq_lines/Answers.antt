use Rattle.std.proofs.Common.{arith}
use Rattle.std.proofs.lemmas.Grind.{common_steps}
use Rattle.examples.proofs.UniqLemmas.{filled}
use Rattle.examples.proofs.uniq.uniq_lines.Goals as goal

pub loop-line-preserved : goal.loop-line-preserved
loop-line-preserved c = grind (
  arith,
  common_steps,
  filled c.in_ok-width.width c.in-Some.count.now,
  c.laid_out.ensures,
)
