use Rattle.ascii.proofs.CallerLemmas.{collects_split}
use Rattle.ascii.proofs.ExtendLemmas.{if_ok}
use Rattle.tests_callers.proofs.iterators.without_separators.Goals as goal

pub returns : goal.returns
returns c = if_ok c.collect_strs.result c.collect_strs.ensures.text (λ string given. (
  c.split.result.items,
  c.split.ensures.iterates.pieces,
  collects_split c.split.result string.text given,
))
