use Rattle.std.proofs.Common.{◌+◌, ◌-◌, ◌/◌, ◌&&◌, length, arith}
use Rattle.std.proofs.lemmas.Bool.{and_parts}
use Rattle.ascii_search.proofs.MasksLemmas.{has_byte, marks_of_three, reads_byte}
use Rattle.ascii_search.proofs.short_search.candidates.Goals as goal

pub returns : goal.returns
returns g c =
    let image = g.M.Comparison.image in
    let hay = c.args.hay.now in
    let needle = c.args.needle.now in
    let start = c.args.start in
    let middle = length needle / 2 in
    let end = length needle - 1 in
    let first_cases = c.cases-first_lower.ensures in
    let middle_cases = c.cases-middle_lower.ensures in
    let end_cases = c.cases-end_lower.ensures in
    marks_of_three image hay needle start g.row.N c.requires.lanes c.requires.room
    start (start + middle) (start + end) _ _ _ _ _ _ (omega arith) (omega arith) (omega arith)
    (λ k l occurs i.
    reads_byte image hay needle start k 0 start _ _ first_cases occurs (omega arith) (omega arith) i
    && reads_byte image hay needle start k middle (start + middle) _ _ middle_cases occurs
    (omega arith) (omega arith) i
    && reads_byte image hay needle start k end (start + end) _ _ end_cases occurs
    (omega arith) (omega arith) i)
    (λ k l is. let three = and_parts _ _ is in let two = and_parts _ _ three.0 in record {
      fits = omega (arith, c.requires.room);
      first = has_byte image hay needle start k 0 start _ _ first_cases (omega arith) two.0;
      middle = grind (arith, has_byte);
      last = grind (arith, has_byte);
    })
