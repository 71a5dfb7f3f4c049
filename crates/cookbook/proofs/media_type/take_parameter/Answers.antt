use Rattle.std.proofs.Common.{◌∷◌, ◌++◌, append_assoc, arith, refl, rules}
use Rattle.ascii.specs.View.{text_of}
use Rattle.cookbook.proofs.media_type.take_parameter.Goals as goal

pub returns : goal.returns
returns c =
    let name = c.in-Some.ensures in
    let equal = c.in_ok-expect.ensures.followed.joined in
    let (value, is, joined, whole) = c.in_ok-value.ensures in (
      text_of c.text-name.result ++ 61 ∷ value,
      (
        rw c.text-name.ensures (name.some, name.text.within),
        (value, rw c.text-value.ensures is, refl),
      ),
      rw c.text-name.ensures (grind (arith, append_assoc, name.text.joined, equal, joined)),
      search rules,
    )
