use Rattle.std.proofs.Common.{Ok, Err, subst}
use Rattle.ascii_run.specs.Wrapped.{writer_of}
use Rattle.ascii_show.specs.Answer.{MayReturn, Writes}
use Rattle.ascii_show.specs.Call.{words_of}
use Rattle.ascii_show.specs.declared.failure.Failure.TheVariants.{Engine}
use Rattle.ascii_show.proofs.AnswerLemmas.{done, failed, handed_on, wrote, wrote_all, wrote_on}
use Rattle.ascii_show.proofs.run_args.Goals as goal

pub returns-in_err-engine-clause-answer : goal.returns-in_err-engine-clause-answer
returns-in_err-engine-clause-answer g c =
    let words = words_of c.args.args.now in
    let fault = c.in_err-engine.field-0.0 in
    let asks = c.mode.ensures words c.in_ok-request.ensures in
    let may = failed _ _ words c.mode.result fault _ _ _ _ asks c.in_err-engine.ensures.outcome in
    handed_on words (g.I.Read.remaining c.args.input) fault c.from_residual-in_err-engine.result
    c.from_residual-in_err-engine.ensures.1
    (subst (λ reader. MayReturn words (g.I.Read.remaining reader) (Err (Engine fault)))
    c.new.ensures.reader may)

pub returns-in_err-engine-clause-output : goal.returns-in_err-engine-clause-output
returns-in_err-engine-clause-output g c =
    let words = words_of c.args.args.now in
    let fault = c.in_err-engine.field-0.0 in
    let asks = c.mode.ensures words c.in_ok-request.ensures in
    let old = g.O.Write.contents (writer_of c.args.output.now) in
    let new = g.O.Write.contents (writer_of c.engine.new.writer) in
    let took = wrote _ _ words c.mode.result fault _ _ _ _ asks c.in_err-engine.ensures.outcome in
    wrote_on words (g.I.Read.remaining c.args.input) old new fault
    c.from_residual-in_err-engine.result c.from_residual-in_err-engine.ensures.1
    (subst (λ reader. Writes words (g.I.Read.remaining reader) (Err (Engine fault)) old new)
    c.new.ensures.reader took)

pub returns-clause-answer : goal.returns-clause-answer
returns-clause-answer g c =
    let words = words_of c.args.args.now in
    let asks = c.mode.ensures words c.in_ok-request.ensures in
    let may = done _ _ words c.mode.result _ _ _ _ asks c.in_ok-engine.ensures.outcome in
    subst (λ reader. MayReturn words (g.I.Read.remaining reader) (Ok tt)) c.new.ensures.reader may

pub returns-clause-output : goal.returns-clause-output
returns-clause-output g c =
    let words = words_of c.args.args.now in
    let asks = c.mode.ensures words c.in_ok-request.ensures in
    let old = g.O.Write.contents (writer_of c.args.output.now) in
    let new = g.O.Write.contents (writer_of c.engine.new.writer) in
    let took = wrote_all _ _ words c.mode.result _ _ _ _ asks c.in_ok-engine.ensures.outcome in
    subst (λ reader. Writes words (g.I.Read.remaining reader) (Ok tt) old new)
    c.new.ensures.reader took
