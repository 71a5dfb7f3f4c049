use Rattle.ascii_search.proofs.MarkedBackLemmas.{without_highest}
use Rattle.ascii_search.proofs.marked_back.without_last.Goals as goal

pub returns : goal.returns
returns c = without_highest c.args.mask c.args.last c.requires
