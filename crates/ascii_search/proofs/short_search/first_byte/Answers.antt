use Rattle.ascii_search.proofs.MasksLemmas.{finds_byte}
use Rattle.ascii_search.proofs.short_search.first_byte.Goals as goal

pub returns : goal.returns
returns c = finds_byte c.args.hay.now c.args.needle.now c.requires c.memchr.result c.memchr.ensures
