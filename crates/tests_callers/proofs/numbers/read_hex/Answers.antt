use Rattle.std.proofs.Common.{◌-◌, ◌^◌, arith, lit≤}
use Rattle.ascii_formats.specs.Numbers.{unsigned_up_to}
use Rattle.ascii.specs.View.{text_of}
use Rattle.ascii_formats.proofs.NumbersLemmas.{reads_number_in}
use Rattle.tests_callers.proofs.numbers.read_hex.Goals as goal

pub returns : goal.returns
returns c =
    reads_number_in (unsigned_up_to (2 ^ 32 - 1)) 16 (text_of c.args.digits) c.to_number_radix.result
    c.to_number_radix.ensures (lit≤ tt) c.requires.digits (omega (arith, c.requires.fits))
