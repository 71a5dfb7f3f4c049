use Rattle.std.proofs.Common.{◌-◌, arith}
use Rattle.std.proofs.lemmas.List.{take_rest}
use Rattle.ascii_devices.proofs.BufferCopyLemmas.{CopiesTo-ends}
use Rattle.ascii_devices.proofs.buffer_copy.copy_ends.Goals as goal

pub returns : goal.returns
returns g c = grind (arith, CopiesTo-ends, take_rest)
