use Rattle.std.proofs.Common.{arith, rules}
use Rattle.ascii_base.proofs.CaseLemmas.{same_shorter, same_front}
use Rattle.ascii_base.proofs.kernels.same_in_two.Goals as goal
use Rattle.ascii_base.proofs.kernels.same_in_two.Goals.{then-at-last, else-at-last}

pub eq_lanes-requires-then-eq_lanes-clause-before
    : goal.eq_lanes-requires-then-eq_lanes-clause-before
eq_lanes-requires-then-eq_lanes-clause-before g c = elim c.if-at-last.branch [
  | then-at-last w ↦ same_shorter _ _ _ c.args.at (omega arith) c.requires.before
  | else-at-last w ↦ same_shorter _ _ _ _ (omega arith) (w.eq_lanes.ensures.0 (search rules))
]

pub returns-else-eq_lanes : goal.returns-else-eq_lanes
returns-else-eq_lanes g c = grind (arith, then-at-last, else-at-last, same_front)
