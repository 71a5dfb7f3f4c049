use Rattle.std.proofs.Common.{◌≡◌, List, ℕ, ◌++◌, length}
use Rattle.ascii_run.specs.Streamed.{with_feeds}
use Rattle.ascii_devices.specs.Buffered.{MayFail, AppendsBytes, output_state}
use Rattle.ascii_run.proofs.modes.lines.put_segments.Given as goal

-- what was appended, and what the rest gives, are what the text gives
abbrev pub invariant-segments : goal.invariant-segments
invariant-segments g l =
    let old = output_state g.K.Sink l.fn.writer l.fn.buffer in
    let new = output_state g.K.Sink l.writer l.buffer in
    MayFail new × ((done : List ℕ)
    × ((last : ℕ → List ℕ) → done ++ with_feeds last l.remaining ≡ with_feeds last l.text)
    × AppendsBytes old new done)

-- the codes that are left
abbrev pub decreases-segments : goal.decreases-segments
decreases-segments g l = length l.remaining
