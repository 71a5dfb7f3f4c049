use Rattle.std.proofs.Common.{◌≡◌}
use Rattle.ascii_keys.proofs.OrderLemmas.{rest_cmp}
use Rattle.ascii_keys.proofs.folded.compare_lower.Given as goal

-- what is left of both texts is ordered as they are
abbrev pub invariant-loop-i : goal.invariant-loop-i
invariant-loop-i l = rest_cmp l.first l.second 0 ≡ rest_cmp l.first l.second l.i
