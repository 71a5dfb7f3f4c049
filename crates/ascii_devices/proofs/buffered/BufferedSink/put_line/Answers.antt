use Rattle.std.proofs.Common.{arith}
use Rattle.ascii_devices.proofs.BufferedLemmas.{AppendsBytes-trans}
use Rattle.ascii_devices.proofs.buffered.BufferedSink.put_line.Goals as goal

pub returns-else-body-len : goal.returns-else-body-len
returns-else-body-len g c = grind (arith, AppendsBytes-trans)
