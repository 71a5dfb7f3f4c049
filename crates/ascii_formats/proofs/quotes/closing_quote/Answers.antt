use Rattle.std.proofs.Common.{arith}
use Rattle.std.proofs.lemmas.Option.{slice_get-get_or}
use Rattle.ascii_formats.proofs.QuotesLemmas.{scan_end, scan_escape, scan_plain, scan_quote}
use Rattle.ascii_formats.proofs.quotes.closing_quote.Goals as goal

pub scan-preserved-then-is_escape : goal.scan-preserved-then-is_escape
scan-preserved-then-is_escape c =
    scan_escape _ _ _ _ (c.is_escape.ensures.0 c.if-is_escape.true) c.scan.invariant

pub scan-preserved : goal.scan-preserved
scan-preserved c =
    let text = c.args.bytes.now in
    scan_plain _ _ text c.scan.at _ (slice_get-get_or text c.scan.at 0 c.scan-test.true)
    c.if-bytes-at.false (λ is. cc (c.is_escape.ensures.1 is, c.if-is_escape.false)) c.scan.invariant

pub returns-then-bytes-at : goal.returns-then-bytes-at
returns-then-bytes-at c = grind (arith, slice_get-get_or, scan_quote)

pub returns : goal.returns
returns c = scan_end _ _ _ c.scan.at c.scan-test.false c.scan.invariant
