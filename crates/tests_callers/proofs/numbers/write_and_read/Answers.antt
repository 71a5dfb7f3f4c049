use Rattle.std.proofs.Common.{◌≡◌, ◌-◌, ◌^◌, arith, rules}
use Rattle.std.specs.Prelude.{decimal}
use Rattle.ascii.specs.View.{text_of}
use Rattle.ascii_formats.proofs.NumbersLemmas.{reads_decimal}
use Rattle.tests_callers.proofs.numbers.write_and_read.Goals as goal

pub returns : goal.returns
returns c =
    let is : text_of c.as_ascii_str.result ≡ decimal c.args.n = search rules in
    reads_decimal (2 ^ 64 - 1) c.args.n c.to_number.result (rw is at c.to_number.ensures)
    (omega (arith, c.ranges.n.fits)) (omega (arith, c.ranges.n.fits))
