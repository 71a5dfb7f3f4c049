use Rattle.std.proofs.Common.{◌≡◌, ◌+◌, ◌-◌, ◌*◌, [], ◌∷◌, refl, arith}
use Rattle.ascii_formats.proofs.NotationsLemmas.{cell_is}
use Rattle.ascii_formats.specs.declared.notations.TheConstants.{PRINTABLE}
use Rattle.ascii_formats.proofs.notations.printable.Goals as goal

pub returns : goal.returns
returns c =
    let at = c.args.code - 32 in
    let one : at * 1 ≡ at = omega arith in
    let code : at + 32 ≡ c.args.code = omega (arith, c.requires.low) in
    let cell = cell_is PRINTABLE.now (λ n. (n + 32) ∷ []) 1 95 at refl
    (omega (arith, c.requires.low, c.requires.high)) in
    rw (c.slice.ensures, c.literal.ensures, c.from-at.ensures) (rw (one, code) at cell)
