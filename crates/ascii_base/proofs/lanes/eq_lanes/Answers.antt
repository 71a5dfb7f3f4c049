use Rattle.std.proofs.Common.{arith, w8}
use Rattle.std.proofs.lemmas.Simd.{length-chunk, chunk-fits}
use lib.Lanes.{chunk}
use Rattle.ascii_base.proofs.CaseLemmas.{no_mark, same_more}
use Rattle.ascii_base.proofs.lanes.eq_lanes.Goals as goal

pub returns : goal.returns
returns g c =
    let n = g.row.N in
    let at = c.args.at in
    let xs = c.args.first.now in
    let ys = c.args.second.now in
    let told = no_mark (chunk at n xs) (chunk at n ys) n (length-chunk at n xs (omega arith))
    (length-chunk at n ys (omega arith)) c.requires.lanes
    (chunk-fits w8 at n xs c.type_inv.first) (chunk-fits w8 at n ys c.type_inv.second) in
    grind (arith, same_more)
