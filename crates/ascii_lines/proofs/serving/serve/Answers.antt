use Rattle.std.proofs.Common.{arith, sym, ◌∙◌}
use Rattle.ascii_lines.specs.Serve.{saying_of}
use Rattle.ascii_lines.proofs.ExchangeLemmas.{replied_to_all}
use Rattle.ascii_lines.proofs.ServeLemmas.{reads_smaller, sends_smaller, serves_all, serves_unsent}
use Rattle.ascii_lines.proofs.ServeLemmas.{so_far-read, so_far-sent, stop_is, stop_none}
use Rattle.ascii_lines.proofs.serving.serve.Goals as goal

pub returns-in-Err-clause-serves : goal.returns-in-Err-clause-serves
returns-in-Err-clause-serves g c = serves_unsent _ _ _ _ c.reads.lines c.flush.new.self _
    c.flush.ensures.talk c.reads.invariant c.position-start.ensures.end c.in-Err.field-0
    (rw c.in-Err.is at c.flush.ensures.sends)

pub returns-in-Some-clause-serves : goal.returns-in-Some-clause-serves
returns-in-Some-clause-serves g c = serves_all _ _ _ _ c.reads.lines c.flush.new.self _
    c.flush.ensures.talk c.reads.invariant c.position-start.ensures.end c.in-Ok.field-0
    (rw c.in-Ok.is at c.flush.ensures.sends) c.in-Some.stop
    (stop_is c.flush.new.self.state.talk.awaited c.in-Some.stop (sym c.stop.ensures ∙ c.in-Some.is))

pub returns-in-Some-clause-replies : goal.returns-in-Some-clause-replies
returns-in-Some-clause-replies g c = λ reply replier is. replied_to_all g.H.Handler.answers
    g.H.Handler.refuses reply replier c.args.lines.now.state c.flush.new.self.state
    c.args.handler.now c.reads.handler c.in-Some.stop (returns-in-Some-clause-serves g c) is

pub reads-smaller-then-is_sending : goal.reads-smaller-then-is_sending
reads-smaller-then-is_sending g c = sends_smaller _ _ _ _ c.reads.lines c.flush.new.self _
    c.flush.ensures.talk c.reads.invariant c.position-start.ensures.end c.in-Ok.field-0
    (rw c.in-Ok.is at c.flush.ensures.sends) (grind arith)
    (saying_of c.sent.new.self) c.sent.new.self.state.talk c.sent.new.handler c.sent.ensures
    (omega (arith, c.position-start.ensures.position, c.position-start.type_inv))

pub reads-preserved-then-is_sending : goal.reads-preserved-then-is_sending
reads-preserved-then-is_sending g c = so_far-sent _ _ _ _ c.reads.lines c.flush.new.self _
    c.flush.ensures.talk c.reads.invariant c.position-start.ensures.end c.in-Ok.field-0
    (rw c.in-Ok.is at c.flush.ensures.sends) (grind arith)
    (saying_of c.sent.new.self) c.sent.new.self.state.talk c.sent.new.handler c.sent.ensures

pub reads-smaller : goal.reads-smaller
reads-smaller g c = reads_smaller _ _ _ _ c.reads.lines c.flush.new.self _
    c.flush.ensures.talk c.reads.invariant c.position-start.ensures.end c.in-Ok.field-0
    (rw c.in-Ok.is at c.flush.ensures.sends)
    (stop_none c.flush.new.self.state.talk.awaited (sym c.stop.ensures ∙ c.in_default.is)) (grind arith)
    (saying_of c.read.new.self) c.read.new.self.state.talk c.read.new.handler c.read.ensures
    (omega (arith, c.position-start.ensures.position, c.position-start.type_inv))

pub reads-preserved : goal.reads-preserved
reads-preserved g c = so_far-read _ _ _ _ c.reads.lines c.flush.new.self _
    c.flush.ensures.talk c.reads.invariant c.position-start.ensures.end c.in-Ok.field-0
    (rw c.in-Ok.is at c.flush.ensures.sends)
    (stop_none c.flush.new.self.state.talk.awaited (sym c.stop.ensures ∙ c.in_default.is)) (grind arith)
    (saying_of c.read.new.self) c.read.new.self.state.talk c.read.new.handler c.read.ensures
