use Rattle.std.proofs.Common.{take}
use Rattle.examples.specs.Tokens.{HasWordsOf}
use Rattle.examples.proofs.tokens.unique_words.Given as goal

-- the words among the tokens so far are those of the set
abbrev pub invariant-loop-token : goal.invariant-loop-token
invariant-loop-token l = HasWordsOf (take l.token-index l.tokens) l.words
