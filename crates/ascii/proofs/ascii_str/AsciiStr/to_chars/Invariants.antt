use Rattle.std.proofs.Common.{◌≡◌, map, take}
use Rattle.ascii_base.specs.Code.{code_of}
use Rattle.ascii.proofs.ascii_str.AsciiStr.to_chars.Given as goal

-- the characters of the bytes so far
abbrev pub invariant-loop-byte : goal.invariant-loop-byte
invariant-loop-byte g l = map code_of l.chars.items ≡ take l.byte-index l.bytes
