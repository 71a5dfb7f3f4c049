use Rattle.std.proofs.Common.{rules, arith}
use Rattle.ascii.proofs.TextLemmas.{EditsInPlace-written, IsAscii-mapped, lower_image-below}
use Rattle.ascii.proofs.ascii_string.Text.make_ascii_lowercase.Goals as goal

pub invariant_of-self : goal.invariant_of-self
invariant_of-self g c = grind (arith, IsAscii-mapped, lower_image-below)

pub returns : goal.returns
returns g c =
    EditsInPlace-written _ _ _ _ _ c.self.view_is (g.met.B.Buffer.with_text _ _)
    (g.met.B.Buffer.with_capacity _ _) c.bytes_mut.ensures.room (search rules) (search rules)
