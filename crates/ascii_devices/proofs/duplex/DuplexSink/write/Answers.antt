use Rattle.std.proofs.Common.{arith}
use Rattle.ascii_devices.proofs.FlushLemmas.{flushes_in-sent}
use Rattle.ascii_devices.proofs.duplex.DuplexSink.write.Goals as goal

pub invariant_of-self-2 : goal.invariant_of-self-2
invariant_of-self-2 g c = grind (arith, flushes_in-sent)
