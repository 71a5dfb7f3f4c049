use Rattle.std.proofs.Common.{map, subst}
use Rattle.memchr.specs.Find.{FindsNeedle}
use Rattle.ascii_base.specs.Case.{lower_image}
use Rattle.ascii.specs.View.{text_of}
use Rattle.ascii.proofs.finder.FinderIgnoringCase.find.Goals as goal

pub returns : goal.returns
returns c = subst (λ needle. FindsNeedle (map lower_image (text_of c.args.text))
    (map lower_image needle) 0 c.find_ignore_ascii_case.result)
    c.self.view_is c.find_ignore_ascii_case.ensures
