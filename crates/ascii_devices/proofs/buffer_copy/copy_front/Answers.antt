use Rattle.std.proofs.Common.{arith, length-take-le}
use Rattle.std.proofs.lemmas.List.{take-take}
use Rattle.ascii_devices.proofs.BufferCopyLemmas.{CopiesTo-take}
use Rattle.ascii_devices.proofs.buffer_copy.copy_front.Goals as goal

pub returns : goal.returns
returns c =
    let bytes = c.args.bytes.now in
    let n = c.args.n in
    let long = length-take-le 64 bytes c.requires.front.1 in
    rw (take-take n 64 bytes c.requires.front.0) at
    (CopiesTo-take n (omega (arith, c.requires.room))
    (omega (arith, long, c.requires.front.0)) c.copy_fixed.ensures)
