use Rattle.std.proofs.Common.{subst}
use Rattle.ascii.specs.Endings.{FreeUpTo}
use Rattle.ascii.proofs.endings.find_end.Goals as goal

pub find_cr_lf-requires-clause-free : goal.find_cr_lf-requires-clause-free
find_cr_lf-requires-clause-free c =
    subst (λ kind. FreeUpTo kind c.args.text.now c.args.searched) c.in-CrLf.is c.requires.free

pub find_break-requires-clause-free : goal.find_break-requires-clause-free
find_break-requires-clause-free c =
    subst (λ kind. FreeUpTo kind c.args.text.now c.args.searched) c.in-CrLfStrict.is
    c.requires.free
