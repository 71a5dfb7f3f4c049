use Rattle.std.proofs.Common.{ap, sym, ◌∙◌, get_or, leb, ◌&&◌, ◌||◌, arith}
use Rattle.std.proofs.lemmas.List.{take_all}
use Rattle.ascii_base.proofs.RangesLemmas.{in_ranges_more}
use Rattle.ascii_base.proofs.classes.ByRangesClass.has.Goals as goal

pub loop-low-preserved : goal.loop-low-preserved
loop-low-preserved g c =
    let r = get_or c.ranges-low-items.result.now c.loop-low.low-index (0, 0) in
    ap (λ b. b || (leb r.0 c.args.byte && leb c.args.byte r.1)) c.loop-low.invariant
    ∙ sym (in_ranges_more c.ranges-low-items.result.now c.loop-low.low-index c.args.byte
    c.loop-low-test.true)

pub returns : goal.returns
returns g c = grind (arith, take_all)
