use Rattle.std.proofs.Common.{List, length, ℕ}
use Rattle.std.specs.Prelude.{IfSome, slice_get}
use Rattle.ascii.specs.Class.{IsWhitespace}
use Rattle.ascii.specs.Trim.{TrimsStart}
use Rattle.ascii.specs.View.{text_of}
use Rattle.example_resp.specs.Store.{byte_lists}
use Rattle.example_resp.specs.Words.{TakesWords}
use Rattle.example_resp.proofs.words.split_words.Given as goal

-- the words so far have been kept, and what is left does not begin with white space
abbrev pub invariant-words : goal.invariant-words
invariant-words l = (text : List ℕ) × TrimsStart IsWhitespace (text_of l.line) text
    × TakesWords text (byte_lists l.words.items) (text_of l.rest)
    × IfSome (slice_get (text_of l.rest) 0) (λ first. ¬ (IsWhitespace first))

-- what is left of the line
abbrev pub decreases-words : goal.decreases-words
decreases-words l = length (text_of l.rest)
