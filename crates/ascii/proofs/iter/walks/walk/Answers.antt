use Rattle.std.proofs.Common.{arith, rules}
use Rattle.ascii.proofs.EndsLemmas.{AnswersTo-all, AnswersTo-step, StepsAt-by}
use Rattle.ascii.proofs.iter.walks.walk.Goals as goal

pub loop-end-preserved : goal.loop-end-preserved
loop-end-preserved g c = rw c.in_ok-push.ensures.items
    (AnswersTo-step _ c.args.items c.loop-end.items _ c.args.script.now c.loop-end.end-index _
    c.loop-end.answers.items c.take_end.result (omega arith) (search rules) c.loop-end.invariant
    (StepsAt-by _ _ _ _ _ _ c.take_end.ensures.front c.take_end.ensures.back))

pub returns-clause-answers : goal.returns-clause-answers
returns-clause-answers g c = grind (arith, AnswersTo-all)
