use Rattle.std.proofs.Common.{arith, eqb-true, length, subst, take, ◌≡◌}
use Rattle.std.proofs.lemmas.List.{take_all}
use Rattle.ascii_lines.specs.Turns.{Converses, place_of, place_with}
use Rattle.ascii_lines.specs.declared.conversation.Supply.TheVariants as supply
use Rattle.ascii_lines.proofs.TurnsLemmas.{feed_joins}
use Rattle.tests_callers.proofs.servers.feed_two.Goals as goal

pub returns : goal.returns
returns g c = λ is.
    let first = c.args.first.now in
    let second = c.args.second.now in
    let one : take c.feed-n.result first ≡ first =
    take_all c.feed-n.result first c.if-n-first.false in
    let same : c.feed-m.result ≡ length second = eqb-true c.feed-m.result (length second) is in
    let two : take c.feed-m.result second ≡ second =
    take_all c.feed-m.result second (omega (arith, same)) in
    feed_joins g.H.Handler.answers g.H.Handler.refuses c.args.talk.now c.feed-n.new.self
    c.feed-m.new.self c.args.handler.now c.feed-n.new.handler c.feed-m.new.handler
    c.args.replies.now c.feed-n.new.replies c.feed-m.new.replies first second
    c.feed-n.ensures.moves.endings c.feed-n.ensures.moves.size
    (subst (λ xs. Converses g.H.Handler.answers g.H.Handler.refuses c.args.talk.now.endings
    c.args.talk.now.size supply.Open (place_with c.args.talk.now c.args.handler.now xs)
    c.args.replies.now (place_of c.feed-n.new.self c.feed-n.new.handler) c.feed-n.new.replies)
    one c.feed-n.ensures.converses)
    (subst (λ xs. Converses g.H.Handler.answers g.H.Handler.refuses c.feed-n.new.self.endings
    c.feed-n.new.self.size supply.Open (place_with c.feed-n.new.self c.feed-n.new.handler xs)
    c.feed-n.new.replies (place_of c.feed-m.new.self c.feed-m.new.handler) c.feed-m.new.replies)
    two c.feed-m.ensures.converses)
