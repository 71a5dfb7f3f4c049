use Rattle.ascii_run.proofs.StateLemmas.{bounded_by_states}
use Rattle.tests_callers.proofs.EngineLemmas.{bounded_states}
use Rattle.tests_callers.proofs.engines.bounded_engine_by_states.Goals as goal

pub returns-clause-outcome : goal.returns-clause-outcome
returns-clause-outcome g c =
    bounded_states _ _ c.args.mode c.bounded_engine.result
    (bounded_by_states g.S.Source g.K.Sink c.args.reader.now c.bounded_engine.new.reader
    c.args.writer.now c.bounded_engine.new.writer c.args.mode c.bounded_engine.result
    c.bounded_engine.ensures.outcome) c.bounded_engine.ensures.read
