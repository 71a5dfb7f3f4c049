use Rattle.std.proofs.Common.{arith, false, subst, take, ◌≡◌, ◌∙◌}
use Rattle.std.proofs.lemmas.List.{take_all}
use Rattle.ascii_lines.specs.Turns.{Converses, place_of, place_with}
use Rattle.ascii_lines.specs.declared.conversation.Awaited.TheVariants.{Sending}
use Rattle.ascii_lines.specs.declared.conversation.Supply.TheVariants as supply
use Rattle.ascii_lines.proofs.TurnsLemmas.{sent_joins}
use Rattle.tests_callers.proofs.servers.feed_and_send.Goals as goal

pub returns-then-is_sending : goal.returns-then-is_sending
returns-then-is_sending g c = λ done.
    let bytes = c.args.bytes.now in
    let all : take c.feed-n.result bytes ≡ bytes =
    take_all c.feed-n.result bytes c.if-n-bytes.false in
    let is : c.feed-n.new.self.awaited ≡ Sending = grind arith in
    let going : c.feed-n.new.self.is_at_end ≡ false =
    c.feed-n.ensures.moves.at_end ∙ c.requires in
    sent_joins g.H.Handler.answers g.H.Handler.refuses c.args.talk.now c.feed-n.new.self
    c.sent.new.self c.args.handler.now c.feed-n.new.handler c.sent.new.handler
    c.args.replies.now c.feed-n.new.replies c.flush.new.self c.sent.new.replies bytes
    c.feed-n.ensures.moves.endings c.feed-n.ensures.moves.size going is
    (subst (λ xs. Converses g.H.Handler.answers g.H.Handler.refuses c.args.talk.now.endings
    c.args.talk.now.size supply.Open (place_with c.args.talk.now c.args.handler.now xs)
    c.args.replies.now (place_of c.feed-n.new.self c.feed-n.new.handler) c.feed-n.new.replies)
    all c.feed-n.ensures.converses)
    c.sent.ensures.converses
