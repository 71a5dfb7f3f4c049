use Rattle.std.proofs.Common.{◌≤◌, arith}
use Rattle.ascii_search.proofs.MasksLemmas.{found_first, nowhere_in_block, nowhere_in_both}
use Rattle.ascii_search.proofs.short_search.first_by_blocks.Goals as goal

pub loop-tested-preserved-then-marked-eq0 : goal.loop-tested-preserved-then-marked-eq0
loop-tested-preserved-then-marked-eq0 g c =
    let start = c.min-start.result in
    record {
      inside = omega (arith, c.min-start.ensures);
      before = nowhere_in_both _ 0 start _ (λ k from to. c.loop-tested.invariant.before k from
          (omega (arith, c.min-start.ensures)))
          (nowhere_in_block _ _ _ start _ c.candidates-marked.ensures c.if-marked-eq0.true);
    }

pub find_otherwise-requires-clause-before : goal.find_otherwise-requires-clause-before
find_otherwise-requires-clause-before g c k from to =
    c.loop-tested.invariant.before k from (omega (arith, c.min-start.ensures))

pub loop-tested-preserved : goal.loop-tested-preserved
loop-tested-preserved g c =
    let start = c.min-start.result in
    let early : start ≤ c.loop-tested.tested = omega (arith, c.min-start.ensures) in
    record {
      inside = omega (arith, c.min-start.ensures);
      before = nowhere_in_both _ 0 start _
          (λ k from to. c.loop-tested.invariant.before k from (omega arith)) c.in-None.ensures;
    }

pub returns-in_default-first_marked : goal.returns-in_default-first_marked
returns-in_default-first_marked g c =
    let start = c.min-start.result in
    let early : start ≤ c.loop-tested.tested = omega (arith, c.min-start.ensures) in
    found_first g.M.Comparison.image c.args.hay.now c.args.needle.now start _ c.first_marked.result
    (λ none. absurd (c.in_default-first_marked.not-None none))
    (λ k from to. c.loop-tested.invariant.before k from (omega arith)) c.first_marked.ensures

pub returns : goal.returns
returns g c k from to occurs = let fits = occurs.fits in
    c.loop-tested.invariant.before k from (omega (arith, fits, c.loop-tested-test.false)) occurs
