use Rattle.std.proofs.Common.{rules}
use Rattle.ascii_base.proofs.CaseLemmas.{same_front}
use Rattle.ascii_base.proofs.kernels.eq_ignore_case.Goals as goal

pub returns-else-eq_lanes : goal.returns-else-eq_lanes
returns-else-eq_lanes c = (
  (λ yes. absurd (search (rules, yes))),
  (λ e. c.eq_lanes.ensures.1 (same_front c.args.first.now c.args.second.now 16 e)),
)
