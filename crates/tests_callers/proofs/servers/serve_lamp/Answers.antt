use Rattle.ascii_lines.proofs.ExchangeLemmas.{talk_runs}
use Rattle.tests_callers.specs.Servers.{LampAnswers, LampRefuses}
use Rattle.tests_callers.proofs.LampLemmas.{lamp_runs}
use Rattle.tests_callers.proofs.servers.serve_lamp.Goals as goal

pub returns : goal.returns
returns g c =
    let served = c.serve.ensures.serves in
    record {
      served = served;
      replies = lamp_runs c.args.lamp.now c.serve.new.handler served.talk.steps
          (talk_runs LampAnswers LampRefuses served.talk);
    }
