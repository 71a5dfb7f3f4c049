use Rattle.std.proofs.Common.{◌&&◌, ap, ap₂, arith}
use Rattle.std.proofs.lemmas.Bool.{eq-eqb}
use Rattle.ascii_base.proofs.CaseLemmas.{near_at}
use Rattle.ascii_base.proofs.kernels.are_apart.Goals as goal

pub returns : goal.returns
returns c far same =
    let both = ap₂ (λ x y. x && y) (eq-eqb _ _ same) far in
    grind (arith, near_at)
