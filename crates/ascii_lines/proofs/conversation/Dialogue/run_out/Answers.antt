use Rattle.std.proofs.Common.{refl, true}
use Rattle.ascii_lines.proofs.TurnsLemmas.{turn_ends, turn_lacks}
use Rattle.ascii_lines.proofs.conversation.Dialogue.run_out.Goals as goal

pub returns-in_default-clause-turn : goal.returns-in_default-clause-turn
returns-in_default-clause-turn g c =
    let said = c.refuse-next.ensures.refuses in
    turn_lacks g.H.Handler.answers g.H.Handler.refuses _ c.args.self.now.buffer true
    c.args.handler.now c.refuse-next.new.self _ c.args.replies.now c.refuse-next.new.replies
    c.args.asked said.0 c.refuse-next.result c.in_default.not-Line c.requires.request refl
    c.requires.none said.1 said.2 c.refuse-next.ensures.request

pub returns-in-Line : goal.returns-in-Line
returns-in-Line g c = record {
  turn = turn_ends g.H.Handler.answers g.H.Handler.refuses c.args.self.now.endings
      c.args.self.now.buffer true c.args.handler.now c.args.handler.now c.args.self.now.start
      c.args.replies.now c.args.replies.now c.args.asked c.in-Line.is refl c.requires.none;
  buffer = refl;
  endings = refl;
}
