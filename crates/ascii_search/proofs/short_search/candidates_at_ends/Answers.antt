use Rattle.std.proofs.Common.{◌+◌, ◌-◌, length, arith}
use Rattle.ascii_search.proofs.MasksLemmas.{all_positions, joined}
use Rattle.ascii_search.proofs.short_search.candidates_at_ends.Goals as goal

pub returns : goal.returns
returns g c =
    let last = length c.args.hay.now - length c.args.needle.now + 1 - g.row.N in
    all_positions g.M.Comparison.image c.args.hay.now c.args.needle.now (last + g.row.N) _ (omega arith) (omega arith)
    (grind (arith, joined))
