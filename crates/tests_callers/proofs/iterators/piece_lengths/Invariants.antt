use Rattle.std.proofs.Common.{◌≡◌, length, map}
use Rattle.ascii.specs.View.{text_of}
use Rattle.tests_callers.proofs.iterators.piece_lengths.Given as goal

-- the lengths of the pieces so far
abbrev pub invariant-loop-piece : goal.invariant-loop-piece
invariant-loop-piece l = l.lengths.items ≡ map length (map text_of l.yielded)
