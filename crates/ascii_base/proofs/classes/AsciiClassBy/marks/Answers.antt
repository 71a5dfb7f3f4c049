use Rattle.std.proofs.Common.{◌<◌, leb, cond, refl, arith}
use Rattle.std.proofs.lemmas.Bool.{leb-true, leb-false}
use Rattle.std.proofs.lemmas.Simd.{splat_is_map, zip2_of_maps, length-chunk}
use lib.Lanes.{chunk}
use Rattle.ascii_base.proofs.LanesLemmas.{itself, marks_of}
use Rattle.ascii_base.proofs.classes.AsciiClassBy.marks.Goals as goal

pub returns : goal.returns
returns g c =
    let v = chunk c.args.at g.row.N c.args.bytes.now in
    let long = length-chunk c.args.at g.row.N c.args.bytes.now c.requires.room in
    marks_of (λ b. b < 128) (leb 128) (λ x t low. absurd (omega (arith, leb-true 128 x t)))
    (λ x t. leb-false 128 x t) (λ x. cond (leb 128 x) 255 0) refl
    c.args.bytes.now c.args.at g.row.N c.requires.room c.requires.lanes c.type_inv.bytes _
    (zip2_of_maps (λ a b. cond (leb a b) 255 0) _ _ v (splat_is_map v g.row.N 128 long) (itself v))
