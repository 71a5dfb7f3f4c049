use Rattle.std.proofs.Common.{◌≡◌, ◌∙◌, [], None, ap, sym}
use Rattle.ascii_lines.proofs.TurnsLemmas.{Turns-bytes}
use Rattle.ascii_lines.specs.Turns.{place_of}
use Rattle.example_smtp.specs.Mail.{State, no_mail}
use Rattle.example_smtp.specs.Session.{session_answers, session_refuses}
use Rattle.example_smtp.specs.declared.session.Stage.TheVariants.{Greeting, Lines}
use Rattle.example_smtp.proofs.DeliveryLemmas.{tells}
use Rattle.example_smtp.proofs.receiving.receive.Goals as goal

pub returns : goal.returns
returns g c =
    let served = c.serve.ensures.serves in
    let talk = served.talk in
    let old = c.args.lines.now.state in
    let told = tells old talk.events old.talk.endings old.talk.size talk.now _
    (place_of c.serve.new.lines.state.talk c.serve.new.handler) [] talk.steps None (no_mail []) (
      λ is. let e : Greeting ≡ Lines =
          ap (λ (s : State). s.stage) (sym c.requires.session) ∙ is in cc,
      ap (λ (s : State). s.draft) c.requires.session,
    ) talk.turns talk.ordered in
    record {
      steps = talk.steps;
      events = talk.events;
      happened = talk.grows;
      came = (Turns-bytes session_answers session_refuses old.talk.endings old.talk.size talk.now _
          (place_of c.serve.new.lines.state.talk c.serve.new.handler) talk.steps talk.turns).0;
      wrote = served.wrote;
      exchanges = told.exchanges;
      are = told.are;
      mails = told.mails;
      delivers = told.delivers;
      stored = told.stored;
    }
