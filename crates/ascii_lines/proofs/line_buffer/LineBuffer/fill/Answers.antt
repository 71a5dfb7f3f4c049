use Rattle.std.proofs.Common.{arith}
use Rattle.ascii_lines.proofs.line_buffer.LineBuffer.fill.Goals as goal

pub refill-requires-clause-room : goal.refill-requires-clause-room
refill-requires-clause-room g c = grind arith
