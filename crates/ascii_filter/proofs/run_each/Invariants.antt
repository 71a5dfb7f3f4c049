use Rattle.std.proofs.Common.{map, take}
use Rattle.ascii_filter.proofs.VisitLemmas.{SoFar}
use Rattle.ascii_filter.proofs.run_each.Given as goal

-- the first files were visited, and something is left to find out
abbrev pub invariant-loop-word : goal.invariant-loop-word
invariant-loop-word g l = SoFar g.K.Sink l.task (map (λ file. file.now) (take l.word-index l.files))
    l.fn.writer l.writer l.status
