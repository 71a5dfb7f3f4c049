use Rattle.std.proofs.Common.{arith, ℕ, ◌∙◌, get_or, leb, eqb, not, cond, bit_and, bit_or, Bool}
use Rattle.std.proofs.Common.{◌-◌}
use Rattle.std.proofs.lemmas.List.{take_all}
use Rattle.std.proofs.lemmas.Simd.{splat_is_map, zip2_of_maps, zip2_splat, zip2_splat_left}
use Rattle.std.proofs.lemmas.Simd.{length-chunk, map-map}
use lib.Lanes.{chunk}
use Rattle.ascii_base.specs.Class.{in_ranges}
use Rattle.ascii_base.proofs.LanesLemmas.{marks_by}
use Rattle.ascii_base.proofs.RangesLemmas.{masks_more, flipped, is_out, is_within}
use Rattle.ascii_base.proofs.classes.ByRangesClassBy.marks.Goals as goal

pub loop-low-init : goal.loop-low-init
loop-low-init g c =
    let n = g.row.N in
    let v = chunk c.args.at n c.args.bytes.now in
    let long = length-chunk c.args.at n c.args.bytes.now c.requires.room in
    zip2_of_maps (λ a b. cond (not (eqb a b)) 255 0) _ _ v (splat_is_map v n 0 long)
    (splat_is_map v n 0 long)

pub loop-low-preserved : goal.loop-low-preserved
loop-low-preserved g c =
    let n = g.row.N in
    let v = chunk c.args.at n c.args.bytes.now in
    let long = length-chunk c.args.at n c.args.bytes.now c.requires.room in
    let items = c.ranges-low-items.result.now in
    let r = get_or items c.loop-low.low-index (0, 0) in
    zip2_of_maps bit_or _ _ v c.loop-low.invariant (zip2_of_maps bit_and _ _ v
    (zip2_splat_left {Y = ℕ} (λ a b. cond (leb a b) 255 0) r.0 n v long)
    (zip2_splat {Y = ℕ} (λ a b. cond (leb a b) 255 0) v n r.1 long))
    ∙ masks_more items c.loop-low.low-index c.loop-low-test.true v

pub returns : goal.returns
returns g c =
    let v = chunk c.args.at g.row.N c.args.bytes.now in
    let items = c.ranges-low-items.result.now in
    let list = g.R.Ranges.list in
    let test : ℕ → Bool = in_ranges list in
    let all = take_all c.loop-low.low-index items c.loop-low-test.false
    ∙ c.ranges-low-items.ensures in
    marks_by g.R.Ranges.set (λ x. not (test x))
    (λ x. is_out (test x) (g.R.Ranges.set x) (g.met.R.Ranges.matches x))
    (λ x. is_within (test x) (g.R.Ranges.set x) (g.met.R.Ranges.matches x))
    (λ x. 255 - cond (test x) 255 0) (λ x less. flipped (test x))
    c.args.bytes.now c.args.at g.row.N c.requires.room c.requires.lanes c.type_inv.bytes _
    (grind (arith, map-map))
