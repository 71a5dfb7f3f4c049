use Rattle.std.proofs.Common.{◌++◌, ◌∙◌, ap, append-nil, subst, take, arith}
use Rattle.std.proofs.lemmas.Str.Ascii.{IsAscii-nil}
use Rattle.ascii_devices.proofs.HistoryLemmas.{Gives-end, Gives-failed, Gives-nil, Gives-read}
use Rattle.ascii_run.specs.Reading.{GivesAll}
use Rattle.ascii_run.proofs.OutputBufferLemmas.{on_error}
use Rattle.ascii_run.proofs.text_engine.read_all.Goals as goal

pub returns-in_err-room-clause-gave : goal.returns-in_err-room-clause-gave
returns-in_err-room-clause-gave g c = grind (arith, on_error, Gives-nil)

pub reads-init : goal.reads-init
reads-init g c = grind (arith, Gives-nil, IsAscii-nil)

pub returns-in_default-clause-gave : goal.returns-in_default-clause-gave
returns-in_default-clause-gave g c = grind (arith, Gives-failed)

pub returns-then-n-eq0-clause-ok : goal.returns-then-n-eq0-clause-ok
returns-then-n-eq0-clause-ok g c =
    let input = c.reads.input.items in
    let part = take c.in-Ok.n c.read.new.buf in
    let start = c.args.reader.now in
    let now = c.read.new.self in
    let gave =
    Gives-read g.S.Source c.args.reader.now c.reads.reader c.read.new.self
    input part c.reads.invariant.1 c.in-Ok.ensures.count c.reads.invariant.0
    c.in-Ok.ensures.bytes.1 c.in-Ok.ensures.history in
    subst (GivesAll g.S.Source c.args.reader.now c.read.new.self)
    (ap (λ k. input ++ take k c.read.new.buf) c.if-n-eq0.true ∙ append-nil input) (
      gave,
      grind (arith, Gives-end),
    )

pub returns-in_err-extend_from_slice-clause-gave :
    goal.returns-in_err-extend_from_slice-clause-gave
returns-in_err-extend_from_slice-clause-gave g c =
    let part = take c.in-Ok.n c.read.new.buf in
    on_error c.from_residual-in_err-extend_from_slice.result (
      c.reads.input.items ++ part,
      grind (arith, Gives-read),
    )

pub reads-preserved : goal.reads-preserved
reads-preserved g c = grind (arith, Gives-read)
