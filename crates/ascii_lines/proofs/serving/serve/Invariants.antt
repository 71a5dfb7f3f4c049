use Rattle.ascii_lines.specs.Serve.{SoFar}
use Rattle.ascii_lines.proofs.ServeLemmas.{calls_left}
use Rattle.ascii_lines.proofs.serving.serve.Given as goal

-- the conversation was held so far
abbrev pub invariant-reads : goal.invariant-reads
invariant-reads g l = SoFar g.H.Handler.answers g.H.Handler.refuses l.fn.lines.state l.fn.handler
    l.lines.state l.handler

abbrev pub decreases-reads : goal.decreases-reads
decreases-reads g l = calls_left l.lines.state.talk
