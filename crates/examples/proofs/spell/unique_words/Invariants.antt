use Rattle.std.proofs.Common.{map, take}
use Rattle.ascii_formats.specs.Parts.{part_text}
use Rattle.examples.specs.Spelling.{HasWords}
use Rattle.examples.proofs.spell.unique_words.Given as goal

-- the words so far are those of the set
abbrev pub invariant-loop-word : goal.invariant-loop-word
invariant-loop-word l = HasWords (map part_text (take l.word-index l.words)) l.unique
