use Rattle.std.proofs.Common.{arith, None}
use Rattle.ascii_search.proofs.MasksLemmas.{found_first, nowhere_in_block}
use Rattle.ascii_search.proofs.short_search.first_by_masks.Goals as goal

pub returns-then-marked-eq0 : goal.returns-then-marked-eq0
returns-then-marked-eq0 g c = found_first g.M.Comparison.image c.args.hay.now c.args.needle.now 0 64 None
    (λ none. omega arith) (λ k from to. absurd (omega arith))
    (nowhere_in_block _ _ _ 0 _ c.all_candidates-marked.ensures c.if-marked-eq0.true)

pub returns-then-needle-le-EXACT : goal.returns-then-needle-le-EXACT
returns-then-needle-le-EXACT g c = grind (arith, found_first)
