use Rattle.std.proofs.Common.{rules}
use Rattle.std.proofs.KnownBytes.{prepend_known-nil}
use Rattle.ascii_filter.proofs.EscapedLemmas.{range-none}
use Rattle.ascii_filter.proofs.escaped.EscapedRead.read.Goals as goal

pub returns-then-buf-ge4-clause-bytes : goal.returns-then-buf-ge4-clause-bytes
returns-then-buf-ge4-clause-bytes g c =
    let self = c.args.self.now in
    rw (range-none self.held self.start self.end c.if-self.false, prepend_known-nil)
    (rw prepend_known-nil c.read_escaped.ensures.bytes)

pub returns-in_err-end-clause-bytes : goal.returns-in_err-end-clause-bytes
returns-in_err-end-clause-bytes g c =
    let self = c.args.self.now in
    let held = c.read_escaped-2.new.buf in
    rw (
      range-none self.held self.start self.end c.if-self.false,
      range-none held self.start self.end c.if-self.false,
      prepend_known-nil,
    )
    (rw prepend_known-nil (search rules))
