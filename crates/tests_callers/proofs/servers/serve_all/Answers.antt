use Rattle.std.proofs.Common.{subst}
use Rattle.ascii_devices.specs.Devices.{received_of}
use Rattle.ascii_lines.specs.Serve.{first_place}
use Rattle.ascii_lines.specs.Turns.{Turns, place_of}
use Rattle.ascii_lines.proofs.StepLemmas.{Turns-split, faults_at, unended_last}
use Rattle.ascii_lines.proofs.TurnsLemmas.{Turns-bytes}
use Rattle.tests_callers.proofs.servers.serve_all.Goals as goal

pub returns : goal.returns
returns g c =
    let A = g.H.Handler.answers in
    let R = g.H.Handler.refuses in
    let old = c.args.lines.now.state in
    let talk = c.serve.ensures.serves.talk in
    let e = old.talk.endings in
    let n = old.talk.size in
    let first = first_place old c.args.handler.now (received_of talk.events) in
    let last = place_of c.serve.new.lines.state.talk c.serve.new.handler in
    let bytes = Turns-bytes A R e n talk.now first last talk.steps talk.turns in
    record {
      talk = talk;
      bytes = bytes.0;
      start = bytes.1;
      errors = λ before error said after is. faults_at A R e n talk.now first last before error said
          after (subst (λ steps. Turns A R e n talk.now first steps last) is talk.turns);
      unended = λ before input said after is.
          let (p, q, taken, turn, then) = Turns-split A R e n talk.now first last before _ after
          (subst (λ steps. Turns A R e n talk.now first steps last) is talk.turns) in (
            p,
            q,
            taken,
            turn,
            then,
            λ line absent. unended_last A R e n talk.now p q last input said after line turn absent
                then,
          );
    }
