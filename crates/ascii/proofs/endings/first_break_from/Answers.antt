use Rattle.ascii.specs.Endings.{is_line_break}
use Rattle.ascii.proofs.EndingsLemmas.{first_passes, none_passes}
use Rattle.ascii.proofs.endings.first_break_from.Goals as goal

pub returns-in-Some : goal.returns-in-Some
returns-in-Some c = first_passes c.args.text.now c.args.from c.requires is_line_break
    c.in-Some.place c.in-Some.ensures

pub returns-in-None : goal.returns-in-None
returns-in-None c =
    none_passes c.args.text.now c.args.from c.requires is_line_break c.in-None.ensures
