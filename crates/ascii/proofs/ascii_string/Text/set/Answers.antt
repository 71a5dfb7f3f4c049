use Rattle.std.proofs.Common.{rules, arith}
use Rattle.std.proofs.lemmas.Str.Ascii.{IsAscii-set}
use Rattle.ascii.proofs.TextLemmas.{EditsInPlace-written, IsAscii-written}
use Rattle.ascii.proofs.ascii_string.Text.set.Goals as goal

pub invariant_of-self : goal.invariant_of-self
invariant_of-self g c = grind (arith, IsAscii-written, IsAscii-set)

pub returns : goal.returns
returns g c =
    EditsInPlace-written _ _ _ _ _ c.self.view_is (g.met.B.Buffer.with_text _ _)
    (g.met.B.Buffer.with_capacity _ _) c.bytes_mut.ensures.room (search rules) (search rules)
