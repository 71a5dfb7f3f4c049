use Rattle.ascii.proofs.CutLaws.{at_class_lawful}
use Rattle.ascii.proofs.iter.by_class.AtClassCut.tell_laws.Goals as goal

pub returns : goal.returns
returns g c = at_class_lawful g.C.Class.is g.C.Class.test
