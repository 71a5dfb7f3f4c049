use Rattle.std.proofs.Common.{◌≡◌, length, map}
use Rattle.ascii.specs.View.{text_of}
use Rattle.tests_callers.proofs.iterators.line_lengths_by_for.Given as goal

-- the lengths of the bodies so far
abbrev pub invariant-loop-body : goal.invariant-loop-body
invariant-loop-body l = l.lengths.items ≡ map length (map text_of l.yielded)
