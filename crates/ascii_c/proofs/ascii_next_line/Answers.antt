use Rattle.std.proofs.Common.{arith, rules}
use Rattle.ascii_c.proofs.NextLineLemmas.{first_line}
use Rattle.ascii_c.proofs.ascii_next_line.Goals as goal

pub returns-clause-line : goal.returns-clause-line
returns-clause-line c some =
    first_line c.args.text.now c.split_ending.result.0.now c.unwrap_or-end.result
    c.split_ending.result.1 (search rules) c.split_ending.ensures.line c.split_ending.ensures.ended
    c.find_end.result c.find_end.ensures (grind arith)
