use Rattle.std.proofs.Common.{◌≡◌, ◌<◌, ◌++◌, ◌^◌, ℕ, List, length, map}
use Rattle.ascii.specs.ByClass.{words_by}
use Rattle.ascii.specs.Tests.{is_whitespace}
use Rattle.ascii.specs.View.{text_of}
use Rattle.examples.specs.Tally.{Counts}
use Rattle.examples.proofs.tally.add_words.Given as goal

-- the words so far are counted too, and after them come those that the line has left
abbrev pub invariant-loop-word : goal.invariant-loop-word
invariant-loop-word l = record {
  whole : words_by is_whitespace (text_of l.line)
      ≡ map text_of l.yielded ++ l.word-iterator.items;
  fits : length (words_by is_whitespace (text_of l.line)) < 2 ^ 64;
  counts : (words : List (List ℕ)) → Counts words l.fn.counts
      → Counts (words ++ map text_of l.yielded) l.counts;
}
