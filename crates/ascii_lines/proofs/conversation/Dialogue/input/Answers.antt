use Rattle.ascii_lines.proofs.TurnsLemmas.{turn_faults}
use Rattle.ascii_lines.proofs.conversation.Dialogue.input.Goals as goal

pub returns-in-Err-clause-turn : goal.returns-in-Err-clause-turn
returns-in-Err-clause-turn g c =
    let said = c.refuse-next.ensures.refuses in
    turn_faults g.H.Handler.answers g.H.Handler.refuses _ c.args.self.now.buffer _
    c.args.handler.now c.refuse-next.new.self _ c.args.replies.now c.refuse-next.new.replies
    c.args.asked c.args.wanted c.in-Err.error said.0 c.refuse-next.result
    c.after_fault-self.result c.requires.some c.requires.wanted
    (rw c.in-Err.is at c.look.ensures) said.1 said.2 c.refuse-next.ensures.request
    c.after_fault-self.ensures
