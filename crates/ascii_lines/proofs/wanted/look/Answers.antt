use Rattle.std.proofs.Common.{arith}
use Rattle.ascii_lines.proofs.TakesLemmas.{find_ends, from_err, looked_for, refusal_looks}
use Rattle.ascii_lines.proofs.wanted.look.Goals as goal

pub returns-in_err-may_fit : goal.returns-in_err-may_fit
returns-in_err-may_fit g c = grind (arith, from_err)

pub find-requires-clause-searched : goal.find-requires-clause-searched
find-requires-clause-searched g c = grind (arith, looked_for)

pub look_at-requires : goal.look_at-requires
look_at-requires g c = find_ends c.args.wanted c.args.start c.args.is_ended c.args.buffer.now
    c.usable-text.result.now c.usable-text.ensures c.in-Some.n c.in-Some.ensures

pub returns-then-text-len : goal.returns-then-text-len
returns-then-text-len g c = grind (arith, refusal_looks)
