use Rattle.std.proofs.Common.{◌≡◌, ◌++◌, map, take}
use Rattle.ascii_devices.specs.declared.log.Event.TheVariants.{Sent}
use Rattle.ascii_devices.proofs.notes.note_sent.Given as goal

abbrev pub invariant-loop-byte : goal.invariant-loop-byte
invariant-loop-byte l = l.log.items ≡ l.fn.log.items ++ map Sent (take l.byte-index l.bytes)
