use Rattle.std.proofs.Common.{◌≡◌, ◌++◌, map, take}
use Rattle.example_smtp.specs.declared.folder.Call.TheVariants.{Append}
use Rattle.example_smtp.proofs.system.note_bytes.Given as goal

abbrev pub invariant-loop-byte : goal.invariant-loop-byte
invariant-loop-byte l = l.calls.items ≡ l.fn.calls.items ++ map Append (take l.byte-index l.bytes)
