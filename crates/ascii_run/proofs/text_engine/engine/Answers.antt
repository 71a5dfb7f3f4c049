use Rattle.std.proofs.Common.{subst, arith}
use Rattle.ascii_run.specs.Reading.{HasFirstOther}
use Rattle.ascii_run.proofs.OutputBufferLemmas.{not_ascii, not_read, ran, stays}
use Rattle.ascii_run.proofs.text_engine.engine.Goals as goal

pub returns-in_err-input-clause-outcome : goal.returns-in_err-input-clause-outcome
returns-in_err-input-clause-outcome g c =
    stays g.S.Source g.K.Sink c.args.mode c.args.reader.now c.read_all.new.reader c.args.writer.now
    c.in_err-input.field-0.0 c.from_residual.result c.from_residual.ensures.1
    (grind (arith, not_read))

pub returns-in-Some-clause-outcome : goal.returns-in-Some-clause-outcome
returns-in-Some-clause-outcome g c =
    not_ascii g.S.Source g.K.Sink c.args.mode c.args.reader.now c.read_all.new.reader
    c.args.writer.now c.in_ok-input.input.items c.in-Some.position c.in_ok-input.ensures.ok
    (subst (HasFirstOther c.in_ok-input.input.items) c.in-Some.is c.in_ok-input.ensures.other)

pub returns-clause-outcome : goal.returns-clause-outcome
returns-clause-outcome g c =
    ran g.S.Source g.K.Sink c.args.mode c.args.reader.now c.read_all.new.reader c.args.writer.now
    c.write_output.new.writer c.in_ok-input.input.items c.write_output.result
    c.in_ok-input.ensures.ok
    (subst (HasFirstOther c.in_ok-input.input.items) c.in_default.is c.in_ok-input.ensures.other)
    c.write_output.ensures.tells
