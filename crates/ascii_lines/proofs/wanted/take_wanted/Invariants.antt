use Rattle.std.proofs.Common.{◌≡◌, ◌+◌, ◌-◌, ◌*◌, length}
use Rattle.ascii_devices.specs.States.{source_state}
use Rattle.ascii_lines.specs.LineReader.{IsLookedFor}
use Rattle.ascii_lines.specs.Wanted.{Gathers, MustRead}
use Rattle.ascii_lines.proofs.GathersLemmas.{reads_left}
use Rattle.ascii_lines.proofs.wanted.take_wanted.Given as goal

-- the bytes that are held are those that were, and after them what the source gave; no read has
-- failed; what is wanted is not among the bytes that were searched
abbrev pub invariant-fills : goal.invariant-fills
invariant-fills g l = Gathers (MustRead l.wanted l.start l.fn.buffer.size) l.fn.buffer.held
    l.fn.buffer.is_at_end l.buffer.is_at_end (source_state g.S.Source l.fn.source)
    (source_state g.S.Source l.source) l.buffer.held
    × (g.S.Source.failures l.source ≡ g.S.Source.failures l.fn.source)
    × (l.buffer.size ≡ l.fn.buffer.size) × IsLookedFor l.wanted l.start l.buffer l.searched

-- the room that is left, and whether a read may return no bytes
abbrev pub decreases-fills : goal.decreases-fills
decreases-fills g l =
    2 * ((l.buffer.size + 1) - length l.buffer.held) + reads_left l.buffer.is_at_end
