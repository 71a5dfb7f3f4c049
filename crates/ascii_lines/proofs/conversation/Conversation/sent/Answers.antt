use Rattle.std.proofs.Common.{arith}
use Rattle.ascii_lines.proofs.TurnsLemmas.{rests_searched}
use Rattle.ascii_lines.proofs.conversation.Conversation.sent.Goals as goal

pub converse-requires-clause-searched : goal.converse-requires-clause-searched
converse-requires-clause-searched g c = λ apart. grind (arith, rests_searched)
