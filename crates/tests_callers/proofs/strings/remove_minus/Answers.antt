use Rattle.std.proofs.Common.{rules}
use Rattle.ascii.proofs.CallerLemmas.{kept_by_code}
use Rattle.tests_callers.proofs.strings.remove_minus.Goals as goal

pub returns : goal.returns
returns c = kept_by_code _ _ (λ f ch stays g k. search rules) _ _ _ c.retain.ensures.kept
