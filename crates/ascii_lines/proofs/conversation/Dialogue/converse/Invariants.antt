use Rattle.std.proofs.Common.{◌≡◌}
use Rattle.ascii_lines.specs.Turns.{IsOver, IsSearchedFor, left_of, place_at, supply_at}
use Rattle.ascii_lines.proofs.TurnsLemmas.{Going}
use Rattle.ascii_lines.proofs.conversation.Dialogue.converse.Given as goal

-- steps were taken so far
abbrev pub invariant-turns : goal.invariant-turns
invariant-turns g l = Going g.H.Handler.answers g.H.Handler.refuses l.fn.self.endings
    l.fn.self.buffer.size (supply_at l.fn.is_ended)
    (place_at l.fn.self.awaited l.fn.handler l.fn.self.start l.fn.self.buffer.held) l.fn.replies
    (place_at l.self.awaited l.handler l.self.start l.self.buffer.held) l.replies
    × (l.self.buffer.size ≡ l.fn.self.buffer.size) × (l.self.endings ≡ l.fn.self.endings)
    × (l.self.buffer.is_at_end ≡ l.fn.self.buffer.is_at_end)
    × (¬ (IsOver l.self.awaited) → IsSearchedFor l.self.endings l.self.buffer.size l.self.awaited
    l.self.start l.self.buffer.held l.searched)

abbrev pub decreases-turns : goal.decreases-turns
decreases-turns g l = left_of l.self.awaited l.self.buffer.held
