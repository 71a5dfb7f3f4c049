use Rattle.std.proofs.Common.{refl, subst}
use Rattle.std.specs.Io.KnownBytes.{Consumes}
use Rattle.ascii_filter.proofs.inputs.run_input.Goals as goal

pub returns : goal.returns
returns g c =
    let (given, took, gives, takes, answer) = c.run_task-answer.ensures.outcome in (
      given,
      took,
      gives.rest,
      c.run_task-answer.result,
      subst (λ reader. Consumes (g.I.Read.remaining reader) gives.rest given)
          c.new-reader.ensures.reader gives.gave,
      takes,
      answer,
      refl,
      c.failure_of-failure.ensures,
    )
