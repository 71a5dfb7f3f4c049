use Rattle.ascii_lines.proofs.TurnsLemmas.{turn_takes}
use Rattle.ascii_lines.proofs.conversation.Dialogue.hand.Goals as goal

pub returns-clause-turn : goal.returns-clause-turn
returns-clause-turn g c =
    let said = c.answer-next.ensures.answers in
    rw (c.after_answer-self.ensures, c.take.ensures.held)
    (turn_takes g.H.Handler.answers g.H.Handler.refuses _ c.args.self.now.buffer _
    c.args.handler.now c.answer-next.new.self _ c.args.replies.now c.answer-next.new.replies
    c.args.asked c.args.wanted c.args.found c.received_at-received.result said.0
    c.answer-next.result c.requires.wanted c.requires.request c.requires.some c.requires.found
    (rw (c.line_bytes.ensures, c.take.ensures.given) at c.received_at-received.ensures) said.1 said.2
    c.answer-next.ensures.request)
