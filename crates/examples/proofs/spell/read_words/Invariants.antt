use Rattle.std.proofs.Common.{◌≡◌, ◌++◌, map}
use Rattle.ascii.specs.ByClass.{words_by}
use Rattle.ascii.specs.Tests.{is_whitespace}
use Rattle.ascii.specs.View.{text_of}
use Rattle.examples.specs.Spelling.{HasWords}
use Rattle.examples.proofs.spell.read_words.Given as goal

-- the words so far are those of the set, and after them come those that the list has left
abbrev pub invariant-loop-word : goal.invariant-loop-word
invariant-loop-word l = record {
  whole : words_by is_whitespace (text_of l.list) ≡ map text_of l.yielded ++ l.word-iterator.items;
  known : HasWords (map text_of l.yielded) l.known;
}
