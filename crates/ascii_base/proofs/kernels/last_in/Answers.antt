use Rattle.std.proofs.Common.{suc, arith}
use Rattle.std.proofs.Math.Nat.{two-pow-succ}
use Rattle.std.proofs.lemmas.Nat.Bits.{bit_at_above}
use Rattle.ascii_base.proofs.LanesLemmas.{from_more, highest_bit, last_mark, no_bit}
use Rattle.ascii_base.proofs.kernels.last_in.Goals as goal

pub returns-then-marked-eq0 : goal.returns-then-marked-eq0
returns-then-marked-eq0 g c = λ k from to. from_more _ _ _ _ _ c.marks_past-marked.ensures
    c.requires.room 0 (λ j l. no_bit _ c.if-marked-eq0.true j) c.requires.after k (omega arith) to

pub returns-else-marked-eq0 : goal.returns-else-marked-eq0
returns-else-marked-eq0 g c =
    let high = c.ilog2.result in
    last_mark _ _ _ _ _ c.marks_past-marked.ensures c.requires.room _
    (highest_bit _ _ c.ilog2.ensures.power_le c.ilog2.ensures.next_power_gt)
    (λ k l. bit_at_above _ (suc high) k (omega (arith, two-pow-succ high)) l) c.requires.after
