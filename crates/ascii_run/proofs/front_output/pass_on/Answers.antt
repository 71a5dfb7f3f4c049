use Rattle.std.specs.declared.result.Result.TheVariants.{Ok, Err}
use Rattle.ascii_run.proofs.FrontOutputLemmas.{passed_on}
use Rattle.ascii_run.proofs.front_output.pass_on.Goals as goal

pub returns-in-Ok-clause-passes : goal.returns-in-Ok-clause-passes
returns-in-Ok-clause-passes g c start held bytes ready appends =
    passed_on g.K.Sink start c.args.writer.now c.finish.new.writer held c.args.buffer.now
    c.finish.new.self bytes (Ok tt) ready appends c.in-Ok.ensures.outcome

pub returns-in-Err-clause-passes : goal.returns-in-Err-clause-passes
returns-in-Err-clause-passes g c start held bytes ready appends =
    passed_on g.K.Sink start c.args.writer.now c.finish.new.writer held c.args.buffer.now
    c.finish.new.self bytes (Err c.in-Err.field-0) ready appends c.in-Err.ensures.outcome
