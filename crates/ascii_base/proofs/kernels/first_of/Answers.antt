use Rattle.ascii_base.proofs.LanesLemmas.{first_of_found}
use Rattle.ascii_base.proofs.kernels.first_of.Goals as goal

pub returns : goal.returns
returns g c = first_of_found g.C.Class.is g.C.Class.test g.met.C.Class.decides c.args.bytes.now
    c.first_past.result c.first_past.ensures
