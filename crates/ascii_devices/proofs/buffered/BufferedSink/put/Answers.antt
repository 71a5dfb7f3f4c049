use Rattle.std.proofs.Common.{arith}
use Rattle.ascii_devices.proofs.BufferedLemmas.{AppendsBytes-trans}
use Rattle.ascii_devices.proofs.buffered.BufferedSink.put.Goals as goal

pub returns-else-bytes-len : goal.returns-else-bytes-len
returns-else-bytes-len g c = grind (arith, AppendsBytes-trans)
