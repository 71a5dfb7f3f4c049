use Rattle.ascii_filter.proofs.VisitLemmas.{not_read}
use Rattle.ascii_filter.proofs.inputs.run_file.Goals as goal

pub returns-then-not-is_text : goal.returns-then-not-is_text
returns-then-not-is_text g c =
    not_read g.K.Sink c.args.task c.args.label.now c.args.writer.now c.failed.result _
    c.failed.ensures

pub returns-then-eq-2 : goal.returns-then-eq-2
returns-then-eq-2 g c =
    not_read g.K.Sink c.args.task c.args.label.now c.args.writer.now c.failed-then-eq-2.result _
    c.failed-then-eq-2.ensures

pub returns-in-Ok : goal.returns-in-Ok
returns-in-Ok g c =
    not_read g.K.Sink c.args.task c.args.label.now c.args.writer.now c.failed-in-Ok.result _
    c.failed-in-Ok.ensures

pub returns-in-Err : goal.returns-in-Err
returns-in-Err g c =
    not_read g.K.Sink c.args.task c.args.label.now c.args.writer.now c.failed-in-Err.result _
    c.failed-in-Err.ensures
