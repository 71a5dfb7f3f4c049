use Rattle.std.proofs.Common.{◌≡◌, ◌+◌, ◌-◌, ◌<◌, arith, lit<, mod-eq_of_lt}
use Rattle.std.proofs.Math.Nat.{div-eq_of_lt, one-le-pow}
use Rattle.ascii_formats.proofs.DecimalsLemmas.{many_places}
use Rattle.ascii_formats.proofs.decimals.Decimal.parts.Goals as goal

pub nonzero_div-result : goal.nonzero_div-result
nonzero_div-result c = grind (arith, one-le-pow, lit<)

pub nonzero_rem-result : goal.nonzero_rem-result
nonzero_rem-result c = grind (arith, one-le-pow, lit<)

pub returns-else-self-lt20-clause-whole : goal.returns-else-self-lt20-clause-whole
returns-else-self-lt20-clause-whole c =
    let places = c.args.self.places in
    let parts : places ≡ (places - 20) + 20 = omega (arith, c.if-self-lt20.false) in
    grind (arith, div-eq_of_lt, many_places)

pub returns-else-self-lt20-clause-fraction : goal.returns-else-self-lt20-clause-fraction
returns-else-self-lt20-clause-fraction c =
    let places = c.args.self.places in
    let parts : places ≡ (places - 20) + 20 = omega (arith, c.if-self-lt20.false) in
    grind (arith, mod-eq_of_lt, many_places)
