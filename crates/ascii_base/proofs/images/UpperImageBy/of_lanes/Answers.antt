use Rattle.std.proofs.Common.{◌+◌, ◌-◌, ◌%◌, ltb, cond, map, refl, ap, ◌∙◌}
use Rattle.std.proofs.lemmas.Simd.{splat_is_map, zip2_of_maps, zip2_splat, map-map}
use lib.Lanes.{top}
use Rattle.ascii_base.specs.Case.{upper_image}
use Rattle.ascii_base.proofs.CaseLemmas.{same_on_bytes}
use Rattle.ascii_base.proofs.LanesLemmas.{itself, chosen}
use Rattle.ascii_base.proofs.images.UpperImageBy.of_lanes.Goals as goal

pub returns : goal.returns
returns g c =
    let n = g.row.N in
    let v = c.args.lanes in
    let long = c.fits-lanes.0 in
    let from = zip2_splat (λ a b. (a + (256 - b)) % 256) v n 97 long in
    let below = zip2_of_maps (λ a b. cond (ltb a b) 255 0) _ _ v from (splat_is_map v n 26 long) in
    let change = chosen (λ x. top 7 (cond (ltb ((x + (256 - 97)) % 256) 26) 255 0)) 32 0 v n
    long (ap (map (top 7)) below ∙ map-map (top 7) _ v) in
    zip2_of_maps (λ a b. (a + (256 - b)) % 256) _ _ v (itself v) change
    ∙ same_on_bytes _ upper_image refl v c.fits-lanes.1
