use Rattle.std.proofs.Common.{None, Some}
use Rattle.examples.proofs.SentenceLemmas.{nth_field}
use Rattle.examples.proofs.nmea.field.Goals as goal

pub returns-in-Some-clause-field : goal.returns-in-Some-clause-field
returns-in-Some-clause-field c =
    let ran = c.in-Some.ensures.ran in
    nth_field c.args.body c.split.result _ c.args.index (Some c.in-Some.field) c.split.ensures
    (ran.0, ran.1, ran.2)

pub returns-clause-fault : goal.returns-clause-fault
returns-clause-fault c line has =
    let ran = c.in-None.ensures.ran in (
      has,
      nth_field c.args.body c.split.result _ c.args.index None c.split.ensures
          (ran.0, ran.1, ran.2),
    )
