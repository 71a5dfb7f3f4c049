use Rattle.std.proofs.Common.{arith, length-take-le}
use Rattle.std.proofs.lemmas.Simd.{take_more_put_chunk, length-put_chunk}
use Rattle.ascii_devices.proofs.buffer_copy.copy_fixed.Goals as goal

pub returns : goal.returns
returns g c = grind (arith, length-take-le, take_more_put_chunk, length-put_chunk)
