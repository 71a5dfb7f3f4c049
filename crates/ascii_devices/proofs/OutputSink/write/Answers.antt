use Rattle.std.proofs.Common.{ap, ◌∙◌}
use Rattle.ascii_devices.specs.Flushes.{flushes_in}
use Rattle.ascii_devices.proofs.FlushLemmas.{flushes_in-sent}
use Rattle.ascii_devices.proofs.OutputSink.write.Goals as goal

pub invariant_of-self-clause-flushes : goal.invariant_of-self-clause-flushes
invariant_of-self-clause-flushes g c = ap flushes_in c.note_sent.ensures
    ∙ (flushes_in-sent c.args.self.now.log.items _ ∙ c.args.self.now.flushes)
