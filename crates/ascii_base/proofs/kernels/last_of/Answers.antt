use Rattle.ascii_base.proofs.LanesLemmas.{last_of_found}
use Rattle.ascii_base.proofs.kernels.last_of.Goals as goal

pub returns : goal.returns
returns g c = last_of_found g.C.Class.is g.C.Class.test g.met.C.Class.decides c.args.bytes.now
    c.last_past.result c.last_past.ensures
