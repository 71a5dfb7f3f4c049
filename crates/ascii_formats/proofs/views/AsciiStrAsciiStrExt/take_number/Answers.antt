use Rattle.std.proofs.Common.{arith}
use Rattle.std.proofs.lemmas.List.{take_rest}
use Rattle.ascii_formats.proofs.NumbersLemmas.{number_at_start}
use Rattle.ascii_formats.proofs.views.AsciiStrAsciiStrExt.take_number.Goals as goal

pub returns-then-from-end : goal.returns-then-from-end
returns-then-from-end g c = grind (arith, take_rest, number_at_start)
