use Rattle.std.proofs.Common.{ap, ◌∙◌, arith}
use Rattle.ascii_devices.specs.Flushes.{flushes_in}
use Rattle.ascii_devices.proofs.FlushLemmas.{flushes_in-flushed}
use Rattle.ascii_devices.proofs.OutputSink.flush.Goals as goal

pub invariant_of-self-clause-flushes : goal.invariant_of-self-clause-flushes
invariant_of-self-clause-flushes g c = ap flushes_in c.and-self.ensures
    ∙ (grind (arith, flushes_in-flushed))
