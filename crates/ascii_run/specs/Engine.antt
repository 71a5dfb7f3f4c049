-- What `engine` ensures of the bytes that its reader gave and of those that its writer took.
use Rattle.std.specs.Prelude.{◌≡◌, ⊤, ℕ, List, [], ◌++◌, Some, length}
use Rattle.std.specs.Str.{IsAscii}
use Rattle.std.specs.declared.result.Result.{Result}
use Rattle.std.specs.declared.result.Result.TheVariants.{Ok, Err}
use Rattle.ascii.specs.Bytes.{FirstOther}
use Rattle.ascii_devices.specs.States.{Takes}
use Rattle.ascii_devices.specs.declared.Sink as sink
use Rattle.ascii_run.specs.declared.faults.EngineFault.{EngineFault}
use Rattle.ascii_run.specs.declared.faults.EngineFault.TheVariants.{NotAscii, Position, Memory}
use Rattle.ascii_run.specs.declared.faults.EngineFault.TheVariants.{Write}
use Rattle.ascii_run.specs.declared.modes.Mode.{Mode}
use Rattle.ascii_run.specs.Modes.{IsOutput, fault_of}

-- the outcome of a run, by the bytes that the reader gave, whether it is at its end, and the bytes
-- that the writer took. `Ok`: the reader is at its end, and the writer took the output of the mode for
-- all that the reader gave. `NotAscii`: the reader is at its end, and the error holds the position of
-- the first non-ASCII byte. `Position`: the reader is at its end, and the error holds the index of the
-- first command that is rejected. `Write`: the reader is at its end, and the writer took a prefix of
-- the output. The writer took nothing except on `Ok` and `Write`.
abbrev pub EngineOutcome : Mode → Result (Unit {0}) EngineFault
    → List ℕ → Type 0 → List ℕ → Type 0
EngineOutcome mode (Ok _) given at_end took =
    at_end × IsAscii given × IsOutput mode given took
EngineOutcome mode (Err (NotAscii n)) given at_end took =
    at_end × FirstOther given 0 (length given) n × (took ≡ [])
EngineOutcome mode (Err (Position k)) given at_end took =
    at_end × IsAscii given × (fault_of mode given ≡ Some k) × (took ≡ [])
EngineOutcome mode (Err Write) given at_end took =
    at_end × IsAscii given × ((others : List ℕ) × IsOutput mode given (took ++ others))
EngineOutcome mode other given at_end took = took ≡ []

-- ---- cited by private functions only

-- why no output of the mode for the text was made. `Position`: it holds the index of the first
-- command that is rejected. `Memory`: an allocation failed.
abbrev pub StopsOutput : Mode → List ℕ → EngineFault → Type 0
StopsOutput mode text (Position k) = fault_of mode text ≡ Some k
StopsOutput mode text Memory = ⊤
StopsOutput mode text other = ⊥

-- what the writer took of the output of the mode for the text. `Ok`: all of it. `Write`: a prefix.
-- `Position`: nothing, and the error holds the index of the first command that is rejected.
-- `Memory`: nothing.
abbrev pub WritesOutput : {K : Type 0} → sink.Ghosts K → Mode → List ℕ
    → Result (Unit {0}) EngineFault → K → K → Type 0
WritesOutput says mode text (Ok _) old new =
    (output : List ℕ) × IsOutput mode text output × Takes says old new output
WritesOutput says mode text (Err (Position k)) old new =
    (fault_of mode text ≡ Some k) × Takes says old new []
WritesOutput says mode text (Err Memory) old new = Takes says old new []
WritesOutput says mode text (Err Write) old new =
    (sent others : List ℕ) × IsOutput mode text (sent ++ others) × Takes says old new sent
WritesOutput says mode text other old new = ⊥
