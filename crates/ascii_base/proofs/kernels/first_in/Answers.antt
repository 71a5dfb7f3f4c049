use Rattle.std.proofs.Common.{arith, w64}
use Rattle.std.proofs.lemmas.Nat.Bits.{bit_at-trailing_zeros}
use Rattle.ascii_base.proofs.LanesLemmas.{before_all, first_mark}
use Rattle.ascii_base.proofs.kernels.first_in.Goals as goal

pub returns-then-marked-eq0 : goal.returns-then-marked-eq0
returns-then-marked-eq0 g c = grind (arith, before_all)

pub returns-else-marked-eq0 : goal.returns-else-marked-eq0
returns-else-marked-eq0 g c =
    let low = bit_at-trailing_zeros w64 c.marks_past-marked.result (omega arith)
    (omega arith) in
    grind (arith, first_mark)
