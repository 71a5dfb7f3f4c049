use Rattle.std.proofs.Common.{arith}
use Rattle.ascii_devices.proofs.FlushLemmas.{flushes_in-read, flushes_in-received}
use Rattle.ascii_devices.proofs.duplex.DuplexSource.read.Goals as goal

pub invariant_of-self : goal.invariant_of-self
invariant_of-self g c = grind (arith, flushes_in-read)

pub invariant_of-self-2 : goal.invariant_of-self-2
invariant_of-self-2 g c = grind (arith, flushes_in-received, flushes_in-read)
