use Rattle.ascii_search.proofs.MasksLemmas.{part_compared}
use Rattle.ascii_search.proofs.short_search.has_part.Goals as goal

pub returns : goal.returns
returns g c = part_compared c.args.hay.now c.args.needle.now c.args.position c.args.from g.row.N
    c.requires.lanes c.requires.fits c.requires.room
