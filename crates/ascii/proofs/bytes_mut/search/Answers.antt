use Rattle.ascii.proofs.WritingViewLemmas.{AsciiBetween-part}
use Rattle.ascii.proofs.bytes_mut.search.Goals as goal

pub invariant_of-result-clause-ascii : goal.invariant_of-result-clause-ascii
invariant_of-result-clause-ascii c =
    let bounds = c.in-Ok.ensures in
    rw (bounds.start, bounds.end) (AsciiBetween-part _ _ _ bounds.ascii)
