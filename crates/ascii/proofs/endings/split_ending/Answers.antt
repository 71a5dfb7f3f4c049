use Rattle.std.proofs.Common.{subst}
use Rattle.ascii.specs.Endings.{IsOneLine}
use Rattle.ascii.proofs.endings.split_ending.Goals as goal

pub split_any_ending-requires : goal.split_any_ending-requires
split_any_ending-requires c =
    subst (λ kind. IsOneLine kind c.args.line.now) c.in-Any.is c.requires

pub split_cr_lf-requires : goal.split_cr_lf-requires
split_cr_lf-requires c =
    subst (λ kind. IsOneLine kind c.args.line.now) c.in-CrLf.is c.requires

pub split_strict_cr_lf-requires : goal.split_strict_cr_lf-requires
split_strict_cr_lf-requires c =
    subst (λ kind. IsOneLine kind c.args.line.now) c.in-CrLfStrict.is c.requires
