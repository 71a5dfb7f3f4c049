use Rattle.std.proofs.Common.{append-nil, arith}
use Rattle.ascii_lines.proofs.TurnsLemmas.{over_rests}
use Rattle.ascii_lines.proofs.conversation.Conversation.feed.Goals as goal

pub returns-then-is_closed-clause-converses : goal.returns-then-is_closed-clause-converses
returns-then-is_closed-clause-converses g c = grind (arith, append-nil, over_rests)
