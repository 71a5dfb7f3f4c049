use Rattle.std.proofs.Common.{◌-◌, arith}
use Rattle.std.proofs.Math.Nat.{pow-zero}
use Rattle.ascii_formats.proofs.PaddingLemmas.{digit_written, digits_written, fewer_digits}
use Rattle.ascii_formats.proofs.PaddingLemmas.{no_digits}
use Rattle.ascii_formats.proofs.padding.write_hex.Goals as goal

pub loop-written-init : goal.loop-written-init
loop-written-init c = grind (arith, no_digits)

pub returns-then-rest-eq0-clause-digits : goal.returns-then-rest-eq0-clause-digits
returns-then-rest-eq0-clause-digits c = grind (arith, digits_written)

pub loop-written-preserved : goal.loop-written-preserved
loop-written-preserved c = grind (arith, digit_written, fewer_digits)

pub returns-clause-digits : goal.returns-clause-digits
returns-clause-digits c = absurd (grind (arith, pow-zero))
