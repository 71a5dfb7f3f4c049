use Rattle.std.proofs.Common.{Err, Ok}
use Rattle.ascii_run.proofs.OutputBufferLemmas.{writes_output}
use Rattle.ascii_run.proofs.text_engine.write_output.Goals as goal

pub returns-in-Ok-clause-tells : goal.returns-in-Ok-clause-tells
returns-in-Ok-clause-tells g c =
    writes_output g.K.Sink c.args.mode c.args.input.items c.args.writer.now
    c.render_output.new.writer c.finish.new.writer c.in_ok-buffer.buffer
    c.render_output.new.buffer c.finish.new.self (Ok c.in-Ok.field-0)
    c.in_ok-buffer.ensures.ready c.in_ok-render_output.ensures.ok c.in-Ok.ensures.outcome

pub returns-clause-tells : goal.returns-clause-tells
returns-clause-tells g c =
    writes_output g.K.Sink c.args.mode c.args.input.items c.args.writer.now
    c.render_output.new.writer c.finish.new.writer c.in_ok-buffer.buffer
    c.render_output.new.buffer c.finish.new.self (Err c.in-Err.field-0)
    c.in_ok-buffer.ensures.ready c.in_ok-render_output.ensures.ok c.in-Err.ensures.outcome
