use Rattle.std.proofs.Common.{arith}
use Rattle.ascii_lines.proofs.TurnsLemmas.{turn_skips}
use Rattle.ascii_lines.proofs.conversation.Dialogue.turn.Goals as goal

pub returns-in-LineEnd-clause-turn : goal.returns-in-LineEnd-clause-turn
returns-in-LineEnd-clause-turn g c = rw c.in-LineEnd.is (grind (arith, turn_skips))
