use Rattle.ascii.proofs.WritingViewLemmas.{AsciiBetween-part}
use Rattle.ascii.proofs.bytes.slice_ascii.Goals as goal

pub returns-clause-ascii : goal.returns-clause-ascii
returns-clause-ascii c = AsciiBetween-part _ _ _ c.in_ok-start.ensures.ascii
