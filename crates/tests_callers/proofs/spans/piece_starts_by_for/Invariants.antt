use Rattle.std.proofs.Common.{◌≡◌, map}
use Rattle.tests_callers.proofs.spans.piece_starts_by_for.Given as goal

-- the starts so far
abbrev pub invariant-loop-span : goal.invariant-loop-span
invariant-loop-span l = l.starts.items ≡ map (λ span. span.start) l.yielded
