use Rattle.std.proofs.Common.{◌≡◌, ◌∙◌, inl, inr, sym}
use Rattle.ascii_lines.specs.Turns.{place_of}
use Rattle.ascii_lines.specs.declared.conversation.Awaited.TheVariants.{Input, LineEnd, Sending}
use Rattle.ascii_lines.specs.declared.conversation.Supply.TheVariants as supply
use Rattle.ascii_lines.specs.declared.serving.Next.TheVariants as next
use Rattle.ascii_lines.proofs.SendingLemmas.{SendsLater, never_sends}
use Rattle.tests_callers.proofs.servers.end_all.Goals as goal

pub returns : goal.returns
returns g c = λ reply replier.
    let converses = c.end.ensures.converses in
    let first : ¬ (SendsLater c.args.talk.now.awaited) = λ later. elim later [
      | inl sending ↦ let e : Input next.Line ≡ Sending = sym c.requires ∙ sending in cc
      | inr line ↦
          let e : Input next.Line ≡ LineEnd next.LineOnceSent = sym c.requires ∙ line in cc
    ] in
    let last : ¬ (SendsLater c.end.new.self.awaited) = never_sends g.H.Handler.answers
    g.H.Handler.refuses
    (λ old input replies asked new gave is. let e : next.Line ≡ next.LineOnceSent =
    sym (replier.0 old input replies asked new gave).1 ∙ is in cc)
    (λ old error replies asked new told is. let e : next.Close ≡ next.LineOnceSent =
    sym (replier.1 old error replies asked new told) ∙ is in cc)
    c.args.talk.now.endings c.args.talk.now.size supply.Ended
    (place_of c.args.talk.now c.args.handler.now) (place_of c.end.new.self c.end.new.handler)
    converses.steps first converses.turns in
    elim converses.closed [
      | inl goes ↦ let e : supply.Ended ≡ supply.Open = goes in cc
      | inr (inl over) ↦ over
      | inr (inr sending) ↦ absurd (last (inl sending))
    ]
