use Rattle.std.proofs.Common.{List, ℕ, take}
use Rattle.ascii_devices.specs.Buffered.{MayFail, AppendsBytes, output_state}
use Rattle.ascii_run.specs.Modes.Ends.{shown_text}
use Rattle.ascii_run.proofs.EndsOutputLemmas.{ShowsSoFar}
use Rattle.ascii_run.proofs.modes.ends.put_ends.Given as goal

-- the answers to the ends so far were appended, and which lines remain
abbrev pub invariant-loop-end : goal.invariant-loop-end
invariant-loop-end g l =
    let old = output_state g.K.Sink l.fn.writer l.fn.buffer in
    let new = output_state g.K.Sink l.writer l.buffer in
    MayFail new × ((output : List ℕ) × AppendsBytes old new output
    × ShowsSoFar (shown_text l.shown) l.initial.lines (take l.end-index l.script) output l.lines)
