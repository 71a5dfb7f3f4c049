use Rattle.std.proofs.Common.{◌≡◌, rules}
use Rattle.std.specs.Fmt.{signed_decimal}
use Rattle.std.specs.Int.{w64}
use Rattle.ascii.specs.View.{text_of}
use Rattle.ascii_formats.proofs.NumbersLemmas.{reads_signed_decimal}
use Rattle.tests_callers.proofs.numbers.write_and_read_signed.Goals as goal

pub returns : goal.returns
returns c =
    let is : text_of c.as_ascii_str.result ≡ signed_decimal c.args.n = search rules in
    reads_signed_decimal w64 c.args.n c.to_number.result (rw is at c.to_number.ensures) c.ranges.n
