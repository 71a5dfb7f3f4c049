use Rattle.std.proofs.Common.{subst, ◌∙◌}
use Rattle.memchr.specs.Find.{FindsNeedle}
use Rattle.ascii.specs.View.{text_of}
use Rattle.ascii.proofs.finder.Finder.find.Goals as goal

pub returns-then-len-gt-SHORT : goal.returns-then-len-gt-SHORT
returns-then-len-gt-SHORT c =
    subst (λ needle. FindsNeedle (text_of c.args.text) needle 0 c.find.result)
    (c.self.invariant ∙ c.self.view_is) c.find.ensures

pub returns-else-len-gt-SHORT : goal.returns-else-len-gt-SHORT
returns-else-len-gt-SHORT c =
    subst (λ needle. FindsNeedle (text_of c.args.text) needle 0 c.first_needle.result)
    c.self.view_is c.first_needle.ensures
