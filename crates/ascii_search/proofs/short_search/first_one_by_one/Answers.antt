use Rattle.std.proofs.Common.{◌+◌, sym, ◌∙◌, arith}
use Rattle.std.proofs.lemmas.Bool.{false≢true}
use Rattle.ascii_search.specs.Masks.{OccursBy}
use Rattle.ascii_search.proofs.MasksLemmas.{nowhere_at, nowhere_in_both}
use Rattle.ascii_search.proofs.short_search.first_one_by_one.Goals as goal

pub loop-position-preserved : goal.loop-position-preserved
loop-position-preserved g c =
    let At = OccursBy g.M.Comparison.image c.args.hay.now c.args.needle.now in
    let position = c.loop-position.position in
    nowhere_in_both At 0 position (position + 1) c.loop-position.invariant (nowhere_at At position
    (λ here. false≢true (sym c.if-is_at.false ∙ c.is_at.ensures.1 here)))

pub returns : goal.returns
returns g c k from to occurs = let fits = occurs.fits in
    c.loop-position.invariant k from (omega (arith, fits, c.loop-position-test.false)) occurs
