use Rattle.std.proofs.Common.{rules}
use Rattle.ascii.proofs.CallerLemmas.{kept_in_class}
use Rattle.tests_callers.proofs.strings.keep_class.Goals as goal

pub returns : goal.returns
returns g c = kept_in_class _ g.C.Class.is _ _ _ c.retain.ensures.kept (λ f ch h k. search rules)
