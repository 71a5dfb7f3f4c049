use Rattle.std.proofs.Common.{◌≡◌, map, take}
use Rattle.ascii_show.specs.Words.{letter_of}
use Rattle.ascii_show.proofs.arguments.parse_script.Given as goal

-- the ends of the letters so far
abbrev pub invariant-loop-letter : goal.invariant-loop-letter
invariant-loop-letter g l = map letter_of l.ends.items ≡ take l.letter-index l.script
