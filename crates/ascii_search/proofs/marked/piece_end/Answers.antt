use Rattle.ascii_search.proofs.MarkedLemmas.{ends_at, ends_past}
use Rattle.ascii_search.proofs.marked.piece_end.Goals as goal

pub returns-in-Some : goal.returns-in-Some
returns-in-Some g c = ends_at g.C.Class.is c.args.bytes.now c.args.from c.requires c.in-Some.at
    c.in-Some.ensures

pub returns-in-None : goal.returns-in-None
returns-in-None g c = ends_past g.C.Class.is c.args.bytes.now c.args.from c.requires
    c.in-None.ensures
