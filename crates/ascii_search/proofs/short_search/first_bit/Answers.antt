use Rattle.std.proofs.Common.{◌+◌, ◌/◌, ◌^◌, arith, w64}
use Rattle.std.specs.Int.{trailing_zeros}
use Rattle.std.proofs.lemmas.Nat.Bits.{bit_at-trailing_zeros}
use Rattle.ascii_search.specs.Masks.{HasBit}
use Rattle.ascii_search.proofs.MasksLemmas.{no_bit, none_below, shifted_down, within_word}
use Rattle.ascii_search.proofs.short_search.first_bit.Goals as goal

pub returns-then-left-eq0 : goal.returns-then-left-eq0
returns-then-left-eq0 c k from to = none_below c.args.mask c.args.from 64
    (no_bit _ 0 64 c.if-left-eq0.true) k from (omega arith)

pub returns : goal.returns
returns c =
    let mask = c.args.mask in
    let from = c.args.from in
    let left = mask / 2 ^ from in
    let lowest = bit_at-trailing_zeros w64 left (omega (arith, c.if-left-eq0.false))
    (omega (arith, c.ranges.mask.fits)) in
    let has : HasBit mask (from + trailing_zeros w64 left) = grind (arith, shifted_down) in (
      record {
        low = omega arith;
        high = within_word mask _ c.ranges.mask.fits has;
        before = none_below mask from _ (λ k low to is. omega (arith, is, lowest.2 k to));
      },
      has,
    )
