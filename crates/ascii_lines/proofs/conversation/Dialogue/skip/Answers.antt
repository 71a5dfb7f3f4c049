use Rattle.std.proofs.Common.{arith}
use Rattle.std.proofs.lemmas.List.{take_all}
use Rattle.ascii_lines.proofs.TurnsLemmas.{skip_taken}
use Rattle.ascii_lines.proofs.conversation.Dialogue.skip.Goals as goal

pub returns-clause-skips : goal.returns-clause-skips
returns-clause-skips g c = grind (arith, skip_taken, take_all)
