use Rattle.ascii_run.proofs.StateLemmas.{engine_by_states}
use Rattle.tests_callers.proofs.EngineLemmas.{engine_states}
use Rattle.tests_callers.proofs.engines.engine_by_states.Goals as goal

pub returns-clause-outcome : goal.returns-clause-outcome
returns-clause-outcome g c =
    engine_states _ _ c.args.mode c.engine.result
    (engine_by_states g.S.Source g.K.Sink c.args.reader.now c.engine.new.reader c.args.writer.now
    c.engine.new.writer c.args.mode c.engine.result c.engine.ensures.outcome c.engine.ensures.read)
