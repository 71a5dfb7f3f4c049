use Rattle.std.proofs.Common.{arith, w64}
use Rattle.std.proofs.lemmas.Nat.Bits.{bit_at-trailing_zeros}
use Rattle.ascii_search.proofs.marked.lowest.Goals as goal

pub returns : goal.returns
returns c =
    let low = bit_at-trailing_zeros w64 c.args.mask (omega (arith, c.requires)) (omega arith) in
    record { few = low.0; set = low.1; below = low.2 }
