use Rattle.std.proofs.Common.{arith, length-append}
use Rattle.ascii_formats.proofs.QuotesLemmas.{longer_written}
use Rattle.ascii_formats.proofs.strings.TextAsciiStringExt.push_quoted.Goals as goal

pub returns-in_err-reserve : goal.returns-in_err-reserve
returns-in_err-reserve g c = grind (arith, length-append, longer_written)
