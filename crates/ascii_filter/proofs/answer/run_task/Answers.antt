use Rattle.std.proofs.Common.{refl, subst, sym}
use Rattle.std.specs.Io.KnownBytes.{IsAtEnd}
use Rattle.ascii_filter.specs.Checked.{IsAnswer}
use Rattle.ascii_filter.specs.declared.answer.Answer.{Answer}
use Rattle.ascii_filter.proofs.answer.run_task.Goals as goal

pub returns-in-Filter-clause-outcome : goal.returns-in-Filter-clause-outcome
returns-in-Filter-clause-outcome g c =
    let (given, took, gives, takes, outcome) = c.bounded_engine.ensures.outcome in
    let answer : Answer = record { found = 0; outcome = c.bounded_engine.result } in (
      given,
      took,
      gives,
      takes,
      subst (λ task. IsAnswer task c.args.label.now answer given (IsAtEnd gives.rest) took
          (g.K.Sink.failures c.args.writer.now) (g.K.Sink.failures c.bounded_engine.new.writer))
          (sym c.in-Filter.is) (refl, outcome, c.bounded_engine.ensures.write),
    )

pub returns-in-Check-clause-outcome : goal.returns-in-Check-clause-outcome
returns-in-Check-clause-outcome g c =
    let (given, took, text, gives, takes, looks, written) = c.name_others.ensures.outcome in (
      given,
      took,
      gives,
      takes,
      subst (λ task. IsAnswer task c.args.label.now c.name_others.result given
          (IsAtEnd gives.rest) took (g.K.Sink.failures c.args.writer.now)
          (g.K.Sink.failures c.name_others.new.writer)) (sym c.in-Check.is)
          (text, looks, written),
    )
