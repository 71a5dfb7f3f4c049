use Rattle.std.proofs.Common.{◌<◌, ◌≤◌, ◌∙◌, ◌+◌, [], ◌++◌, length, take, arith, refl}
use Rattle.std.proofs.Common.{length-append, length-take-le}
use Rattle.std.proofs.lemmas.Str.{IsAscii-append}
use Rattle.std.proofs.lemmas.Str.Ascii.{IsAscii-nil}
use Rattle.ascii_devices.proofs.HistoryLemmas.{Gives-end, Gives-failed, Gives-nil, Gives-read}
use Rattle.ascii_run.proofs.BoundedLemmas.{closes, last_kept, no_run, opened, opening_fails}
use Rattle.ascii_run.proofs.BoundedLemmas.{part_fails, part_written, prefix_written, read_fails}
use Rattle.ascii_run.proofs.BoundedLemmas.{reads_counted, stops_there, too_long, whole_part}
use Rattle.ascii_run.proofs.bounded.bounded_engine.Goals as goal

pub returns-in_default-clause-outcome : goal.returns-in_default-clause-outcome
returns-in_default-clause-outcome g c =
    opening_fails g.S.Source g.K.Sink c.args.mode c.in_ok-output.output.mode
    c.args.reader.now c.args.writer.now c.open.new.writer
    c.in_ok-output.ensures.0
    (prefix_written g.S.Source g.K.Sink _ _ _ c.in_default.field-0 c.in_default.ensures.passes)

pub chunks-init : goal.chunks-init
chunks-init g c =
    let is = c.in_ok-output.ensures.0 in (
      refl,
      c.in-Ok.ensures.passes.1,
      c.in-Ok.ensures.kept.0 ∙ is,
      c.in-Ok.ensures.ready,
      (
        [],
        refl,
        Gives-nil g.S.Source c.args.reader.now,
        λ ascii. IsAscii-nil,
        c.in-Ok.ensures.kept.1 ∙ c.in_ok-output.ensures.1,
        grind (arith, opened),
      ),
    )

pub returns-in_default-read-clause-outcome : goal.returns-in_default-read-clause-outcome
returns-in_default-read-clause-outcome g c =
    let (done, long, gave, input, last, wrote) = c.chunks.invariant.4 in
    read_fails g.S.Source g.K.Sink c.args.mode c.chunks.output.mode c.chunks.output.last c.args.reader.now
    c.read.new.self c.args.writer.now c.chunks.writer
    c.stop.new.writer done c.stop.result c.chunks.invariant.2 last (grind (arith, Gives-failed))
    input wrote c.stop.ensures

pub returns-in_default-read-clause-read : goal.returns-in_default-read-clause-read
returns-in_default-read-clause-read g c = grind (arith, reads_counted)

pub returns-then-n-eq0-clause-outcome : goal.returns-then-n-eq0-clause-outcome
returns-then-n-eq0-clause-outcome g c =
    let (done, long, gave, input, last, wrote) = c.chunks.invariant.4 in
    let none = c.if-n-eq0.true in
    let part = take c.in-Ok-read.n c.read.new.buf in
    let gave =
    Gives-read g.S.Source c.args.reader.now c.chunks.reader c.read.new.self done
    part c.chunks.invariant.0 c.in-Ok-read.ensures.count gave c.in-Ok-read.ensures.bytes.1
    c.in-Ok-read.ensures.history in
    closes g.S.Source g.K.Sink c.args.mode c.chunks.output.mode c.chunks.output.last c.args.reader.now
    c.read.new.self c.args.writer.now c.chunks.writer
    c.close.new.writer done c.read.new.buf c.in-Ok-read.n c.close.result none
    c.chunks.invariant.2 last gave (grind (arith, Gives-end)) input wrote c.close.ensures.passes

pub returns-in_default-append-clause-outcome : goal.returns-in_default-append-clause-outcome
returns-in_default-append-clause-outcome g c =
    let (done, long, gave, input, last, wrote) = c.chunks.invariant.4 in
    let part = take c.in-Ok-read.n c.read.new.buf in
    part_fails g.S.Source g.K.Sink c.args.mode c.chunks.output.mode c.chunks.output.last c.args.reader.now
    c.read.new.self c.args.writer.now c.chunks.writer
    c.append.new.writer done part c.text_length-length.result c.chunks.invariant.2 last
    (grind (arith, Gives-read)) input c.text_length-length.ensures.input wrote
    (prefix_written g.S.Source g.K.Sink _ _ _ c.in_default-append.field-0 c.in_default-append.ensures.passes)

pub returns-in_default-checked_add-clause-outcome :
    goal.returns-in_default-checked_add-clause-outcome
returns-in_default-checked_add-clause-outcome g c =
    let (done, long, gave, input, last, wrote) = c.chunks.invariant.4 in
    let n = c.text_length-length.result in
    let part = take c.in-Ok-read.n c.read.new.buf in
    too_long g.S.Source g.K.Sink c.args.mode c.append.new.self.mode c.append.new.self.last c.args.reader.now
    c.read.new.self c.args.writer.now c.append.new.writer
    c.stop-in_default-checked_add.new.writer done part c.chunks.position n
    c.stop-in_default-checked_add.result (c.in-Ok-append.ensures.kept.0 ∙ c.chunks.invariant.2)
    (last_kept c.append.new.self.last c.chunks.output.last done (take n part)
    c.in-Ok-append.ensures.kept.1 last) long c.text_length-length.ensures.within
    c.in_default-checked_add.ensures (grind (arith, Gives-read))
    input c.text_length-length.ensures.input
    (part_written g.S.Source g.K.Sink c.args.mode c.chunks.output.mode c.chunks.output.last c.args.writer.now
    c.chunks.writer c.append.new.writer done (take n part) c.chunks.invariant.2
    last wrote c.in-Ok-append.ensures.passes.0) c.stop-in_default-checked_add.ensures

pub returns-then-length-n-clause-outcome : goal.returns-then-length-n-clause-outcome
returns-then-length-n-clause-outcome g c =
    let (done, long, gave, input, last, wrote) = c.chunks.invariant.4 in
    let n = c.text_length-length.result in
    let part = take c.in-Ok-read.n c.read.new.buf in
    let inside : n < length part = grind (arith, length-take-le) in
    stops_there g.S.Source g.K.Sink c.args.mode c.append.new.self.mode c.append.new.self.last
    c.args.reader.now c.read.new.self c.args.writer.now
    c.append.new.writer c.stop-then-length-n.new.writer done part
    c.chunks.position n c.in-Some.next c.stop-then-length-n.result
    (c.in-Ok-append.ensures.kept.0 ∙ c.chunks.invariant.2)
    (last_kept c.append.new.self.last c.chunks.output.last done (take n part)
    c.in-Ok-append.ensures.kept.1 last) long c.in-Some.ensures.1 (grind (arith, Gives-read))
    input c.text_length-length.ensures.input (c.text_length-length.ensures.other inside)
    (part_written g.S.Source g.K.Sink c.args.mode c.chunks.output.mode c.chunks.output.last c.args.writer.now
    c.chunks.writer c.append.new.writer done (take n part) c.chunks.invariant.2
    last wrote c.in-Ok-append.ensures.passes.0) c.stop-then-length-n.ensures

pub chunks-preserved : goal.chunks-preserved
chunks-preserved g c =
    let (done, long, gave, input, last, wrote) = c.chunks.invariant.4 in
    let n = c.text_length-length.result in
    let part = take c.in-Ok-read.n c.read.new.buf in
    let text = take n part in
    let all : length part ≤ n = grind (arith, length-take-le) in (
      c.in-Ok-read.ensures.count ∙ c.chunks.invariant.0,
      c.in-Ok-append.ensures.passes.1 ∙ c.chunks.invariant.1,
      c.in-Ok-append.ensures.kept.0 ∙ c.chunks.invariant.2,
      c.in-Ok-append.ensures.ready,
      (
        done ++ text,
        grind (arith, length-append, length-take-le),
        whole_part g.S.Source g.K.Sink c.args.reader.now c.read.new.self done part n all
            (grind (arith, Gives-read)),
        grind (arith, IsAscii-append),
        last_kept c.append.new.self.last c.chunks.output.last done text
            c.in-Ok-append.ensures.kept.1 last,
        part_written g.S.Source g.K.Sink c.args.mode c.chunks.output.mode c.chunks.output.last
            c.args.writer.now c.chunks.writer c.append.new.writer done
            text c.chunks.invariant.2 last wrote c.in-Ok-append.ensures.passes.0,
      ),
    )

pub returns-in_err-room-clause-outcome : goal.returns-in_err-room-clause-outcome
returns-in_err-room-clause-outcome g c =
    no_run g.S.Source g.K.Sink c.args.mode c.args.reader.now
    c.args.writer.now c.from_residual.result c.from_residual.ensures

pub returns-in_err-output-clause-outcome : goal.returns-in_err-output-clause-outcome
returns-in_err-output-clause-outcome g c =
    no_run g.S.Source g.K.Sink c.args.mode c.args.reader.now
    c.args.writer.now c.from_residual-in_err-output.result
    c.from_residual-in_err-output.ensures
