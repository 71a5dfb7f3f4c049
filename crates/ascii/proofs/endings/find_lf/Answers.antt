use Rattle.memchr.specs.Find.{is_byte}
use Rattle.ascii.proofs.EndingsLemmas.{first_passes, none_passes}
use Rattle.ascii.proofs.endings.find_lf.Goals as goal

pub returns-in-Some : goal.returns-in-Some
returns-in-Some c = first_passes c.args.text.now c.args.from c.requires (is_byte 10)
    c.in-Some.place c.in-Some.ensures

pub returns-in-None : goal.returns-in-None
returns-in-None c =
    none_passes c.args.text.now c.args.from c.requires (is_byte 10) c.in-None.ensures
