use Rattle.std.proofs.Common.{map}
use Rattle.std.specs.List.{flat_map}
use Rattle.ascii.specs.View.{text_of}
use Rattle.ascii_devices.specs.Buffered.{MayFail, AppendsBytes, output_state}
use Rattle.ascii_run.specs.Modes.Lines.{with_line_feed}
use Rattle.ascii_run.proofs.modes.tac.put_tac.Given as goal

-- what is shown of the items so far was appended
abbrev pub invariant-loop-body : goal.invariant-loop-body
invariant-loop-body g l =
    let old = output_state g.K.Sink l.fn.writer l.fn.buffer in
    let new = output_state g.K.Sink l.writer l.buffer in
    MayFail new × AppendsBytes old new (flat_map with_line_feed (map text_of l.yielded))
