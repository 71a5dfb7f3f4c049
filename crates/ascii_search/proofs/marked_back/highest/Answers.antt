use Rattle.std.proofs.Common.{suc, arith}
use Rattle.std.proofs.Math.Nat.{two-pow-succ}
use Rattle.std.proofs.lemmas.Nat.Bits.{bit_at_above}
use Rattle.ascii_base.proofs.LanesLemmas.{highest_bit}
use Rattle.ascii_search.proofs.marked_back.highest.Goals as goal

pub returns : goal.returns
returns c =
    let high = c.ilog2.result in
    let next = c.ilog2.ensures.next_power_gt in record {
      few = omega (arith, c.ilog2.ensures.bound);
      set = highest_bit _ _ c.ilog2.ensures.power_le next;
      above = λ k l. bit_at_above _ (suc high) k (omega (arith, two-pow-succ high, next)) l;
    }
