use Rattle.std.proofs.Common.{arith}
use Rattle.ascii_lines.proofs.WriteBufferLemmas.{finish_fails}
use Rattle.ascii_lines.proofs.line_writer.send_all.Goals as goal

pub returns : goal.returns
returns g c = grind (arith, finish_fails)
