use Rattle.std.proofs.Common.{arith}
use Rattle.std.proofs.lemmas.Int.Digits.{digits_more}
use Rattle.ascii_formats.proofs.DecimalsLemmas.{value_more}
use Rattle.ascii_formats.proofs.decimals.continue_number.Goals as goal

pub returns-in_default : goal.returns-in_default
returns-in_default c = grind arith

pub returns-in_default-with_digit : goal.returns-in_default-with_digit
returns-in_default-with_digit c = grind (arith, value_more)

pub loop-at-preserved : goal.loop-at-preserved
loop-at-preserved c = grind (arith, value_more, digits_more)
