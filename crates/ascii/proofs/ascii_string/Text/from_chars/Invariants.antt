use Rattle.std.proofs.Common.{◌≡◌, map, take}
use Rattle.ascii_base.specs.Code.{code_of}
use Rattle.ascii.proofs.ascii_string.Text.from_chars.Given as goal

-- the text of the characters so far
abbrev pub invariant-loop-ch : goal.invariant-loop-ch
invariant-loop-ch g l = l.string.text ≡ map code_of (take l.ch-index l.chars)
