use Rattle.std.proofs.Common.{◌-◌, ◌+◌, ◌*◌, length, min}
use Rattle.ascii_devices.specs.States.{source_state}
use Rattle.ascii_lines.proofs.GathersLemmas.{reads_left}
use Rattle.ascii_lines.proofs.SkippingLemmas.{PassedSoFar}
use Rattle.ascii_lines.proofs.skipping.pass_line.Given as goal

-- no line ends in the bytes that were taken so far, and no read has failed
abbrev pub invariant-fills : goal.invariant-fills
invariant-fills g l = PassedSoFar l.endings l.limit l.fn.buffer l.buffer
    (source_state g.S.Source l.fn.source) (source_state g.S.Source l.source) l.passed

-- what may yet be taken, or if nothing is, what two bytes need, and whether a read may return none
abbrev pub decreases-fills : goal.decreases-fills
decreases-fills g l =
    2 * (3 * (l.limit - l.passed.count) + (2 - min 2 (length l.buffer.held)))
    + reads_left l.buffer.is_at_end
