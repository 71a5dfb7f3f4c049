use Rattle.std.proofs.Common.{◌≡◌, ◌++◌, List, length, ℕ}
use Rattle.ascii.specs.View.{text_of}
use Rattle.example_resp.specs.Words.{HasPieces}
use Rattle.example_resp.proofs.words.take_pieces.Given as goal

-- the pieces so far have been appended
abbrev pub invariant-pieces : goal.invariant-pieces
invariant-pieces l = (value : List ℕ) × (l.word.items ≡ l.fn.word.items ++ value)
    × HasPieces l.quotes (text_of l.text) value (text_of l.rest)

-- what is left of the text
abbrev pub decreases-pieces : goal.decreases-pieces
decreases-pieces l = length (text_of l.rest)
