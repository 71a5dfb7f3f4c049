-- The output of a mode that was appended to a sink with a buffer. Only private functions cite it.
use Rattle.std.specs.Prelude.{ℕ, List}
use Rattle.ascii_devices.specs.declared.Sink.{Ghosts}
use Rattle.ascii_devices.specs.Buffered.{AppendsBytes, BufferState, OutputState, output_state}
use Rattle.ascii_run.specs.declared.modes.Mode.{Mode}
use Rattle.ascii_run.specs.Modes.{IsOutput}

-- the bytes that were appended are the output of the mode for the text
abbrev pub AppendsOutput : Mode → List ℕ → OutputState → OutputState → Type 0
AppendsOutput mode text old new =
    (output : List ℕ) × IsOutput mode text output × AppendsBytes old new output

-- `AppendsOutput` for a writer and its buffer, as they were and as they are now
abbrev pub AppendsOutputTo : {K : Type 0}
    → Mode → List ℕ → Ghosts K → K → BufferState → K → BufferState → Type 0
AppendsOutputTo mode text sink writer buffer writer_now buffer_now =
    AppendsOutput mode text
    (output_state sink writer buffer) (output_state sink writer_now buffer_now)
