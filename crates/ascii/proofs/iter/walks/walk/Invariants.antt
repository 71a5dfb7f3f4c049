use Rattle.std.proofs.Common.{take}
use Rattle.ascii.specs.Walks.{AnswersTo}
use Rattle.ascii.specs.Found.{StepsAt}
use Rattle.ascii.proofs.iter.walks.walk.Given as goal

-- the answers to the ends so far
abbrev pub invariant-loop-end : goal.invariant-loop-end
invariant-loop-end g l =
    AnswersTo (StepsAt g.I.Iterator.next_gives g.I.DoubleEndedIterator.next_back_gives)
    l.initial.items (take l.end-index l.script) l.answers.items l.items
