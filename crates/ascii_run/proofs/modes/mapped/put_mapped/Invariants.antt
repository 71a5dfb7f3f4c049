use Rattle.std.proofs.Common.{◌≡◌, List, ℕ, ◌++◌, length}
use Rattle.std.specs.List.{flat_map}
use Rattle.ascii_devices.specs.Buffered.{MayFail, AppendsBytes, output_state}
use Rattle.ascii_run.proofs.modes.mapped.put_mapped.Given as goal

-- the output of the codes before the rest was appended
abbrev pub invariant-segments : goal.invariant-segments
invariant-segments g l =
    let old = output_state g.K.Sink l.fn.writer l.fn.buffer in
    let new = output_state g.K.Sink l.writer l.buffer in
    MayFail new × ((done : List ℕ) × (done ++ l.remaining ≡ l.fn.codes)
    × AppendsBytes old new (flat_map g.S.Show.shown done))

-- the codes that are left
abbrev pub decreases-segments : goal.decreases-segments
decreases-segments g l = length l.remaining
