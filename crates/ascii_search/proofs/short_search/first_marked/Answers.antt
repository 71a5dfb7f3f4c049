use Rattle.std.proofs.Common.{◌+◌, ◌≤◌, length, sym, ◌∙◌, arith}
use Rattle.std.proofs.lemmas.Bool.{false≢true}
use Rattle.ascii_search.specs.Masks.{OccursBy}
use Rattle.ascii_search.proofs.MasksLemmas.{nowhere_at, nowhere_in_both, nowhere_marked}
use Rattle.ascii_search.proofs.short_search.first_marked.Goals as goal

pub returns-then-is_there : goal.returns-then-is_there
returns-then-is_there g c =
    let hay = c.args.hay.now in
    let needle = c.args.needle.now in
    let place = c.args.start + c.in-Some.bit in
    let short = c.in-Some.ensures.0.high in
    let fits : place + length needle ≤ length hay = grind arith in (
      record {
        low = omega arith;
        high = omega (arith, short);
        before = nowhere_in_both _ _ (c.args.start + c.loop-bit.tested) place
            c.loop-bit.invariant.before (nowhere_marked _ _ _ _ 64 _ _ _ c.requires.marks
            (omega (arith, short)) c.in-Some.ensures.0.before);
      },
      c.is_there.ensures.0 c.if-is_there.true,
    )

pub loop-bit-preserved : goal.loop-bit-preserved
loop-bit-preserved g c =
    let hay = c.args.hay.now in
    let needle = c.args.needle.now in
    let place = c.args.start + c.in-Some.bit in
    let short = c.in-Some.ensures.0.high in
    let fits : place + length needle ≤ length hay = grind arith in
    let before = nowhere_in_both (OccursBy g.M.Comparison.image hay needle) _ (c.args.start + c.loop-bit.tested) place
    c.loop-bit.invariant.before (nowhere_marked _ _ _ _ 64 _ _ _ c.requires.marks
    (omega (arith, short)) c.in-Some.ensures.0.before) in
    let not = nowhere_at (OccursBy g.M.Comparison.image hay needle) place (λ here. false≢true (sym c.if-is_there.false
    ∙ c.is_there.ensures.1 here)) in
    record {
      inside = omega (arith, short);
      before = λ k from to. nowhere_in_both (OccursBy g.M.Comparison.image hay needle) _ place (place + 1) before not k
          from (omega arith);
    }

pub returns : goal.returns
returns g c = nowhere_in_both _ _ (c.args.start + c.loop-bit.tested) _ c.loop-bit.invariant.before
    (nowhere_marked _ _ _ _ 64 _ _ 64 c.requires.marks (omega arith) c.in_default.ensures)
