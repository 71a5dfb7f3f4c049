-- What a run read and wrote, by the bytes that its reader has yet to give and those that its writer
-- has taken, before the run and after it.
use Rattle.std.specs.Prelude.{◌≡◌, ◌⊎◌, ◌≤◌, ◌^◌, ℕ, List, ◌++◌, Some, false, length, take}
use Rattle.std.specs.Str.{IsAscii}
use Rattle.std.specs.Io.KnownBytes.{Appends, Consumes, IsAtEnd, Keeps}
use Rattle.std.specs.declared.option.Option.{Option}
use Rattle.std.specs.declared.result.Result.{Result}
use Rattle.std.specs.declared.result.Result.TheVariants.{Ok, Err}
use Rattle.ascii.specs.Bytes.{FirstOther}
use Rattle.ascii_run.specs.declared.Sink as sink
use Rattle.ascii_run.specs.declared.Source as source
use Rattle.ascii_run.specs.declared.bounded.BoundedMode.{BoundedMode}
use Rattle.ascii_run.specs.declared.faults.BoundedFault.{BoundedFault}
use Rattle.ascii_run.specs.declared.faults.BoundedFault.TheVariants as bounded
use Rattle.ascii_run.specs.declared.faults.EngineFault.{EngineFault}
use Rattle.ascii_run.specs.declared.faults.EngineFault.TheVariants.{NotAscii, Position, Memory}
use Rattle.ascii_run.specs.declared.faults.EngineFault.TheVariants.{Read, Write}
use Rattle.ascii_run.specs.declared.modes.Mode.{Mode}
use Rattle.ascii_run.specs.Bounded.{IsCutAt}
use Rattle.ascii_run.specs.Modes.{IsOutput, fault_of}
use Rattle.ascii_run.specs.Streamed.{IsCutOutput, IsInput, IsWholeOutput, takes_all}

-- the bytes that the reader has yet to give, how many of its calls have failed, and the bytes that
-- the writer has taken; bytes are `None` if they are not known
pub record IoState : Type 0 where
  pub remaining : Option (List ℕ)
  pub failures : ℕ
  pub taken : Option (List ℕ)

-- the state of a reader and a writer, by what the `Source` and the `Sink` say of them
abbrev pub io_state : {S K : Type 0} → source.Ghosts S → sink.Ghosts K → S → K → IoState
io_state source sink reader writer = record {
  remaining = source.rest reader;
  failures = source.failures reader;
  taken = sink.taken writer;
}

-- the reader gave `text`, which is ASCII, and is at its end
pub record ReadsText (old new : IoState) (text : List ℕ) : Type 0 where
  pub gave : Consumes old.remaining new.remaining text
  pub ended : IsAtEnd new.remaining
  pub ascii : IsAscii text

-- what `engine` read and wrote between the old state and the new one. `Ok`: the reader gave an
-- ASCII text and is at its end, and the writer took the output of the mode for it. `NotAscii`: the
-- reader is at its end, and the error holds the position of the first non-ASCII byte of what it
-- gave. `Position`: the reader gave an ASCII text and is at its end, and the error holds the index
-- of the first command that is rejected. `Write`: the reader gave an ASCII text and is at its end,
-- and the writer took a prefix of the output. The writer took nothing except on `Ok` and `Write`.
abbrev pub EngineStates : Mode → Result (Unit {0}) EngineFault → IoState → IoState → Type 0
EngineStates mode (Ok _) old new =
    (text output : List ℕ) × ReadsText old new text × IsOutput mode text output
    × Appends old.taken new.taken output
EngineStates mode (Err (NotAscii n)) old new =
    (bytes : List ℕ) × Consumes old.remaining new.remaining bytes × IsAtEnd new.remaining
    × FirstOther bytes 0 (length bytes) n × Keeps old.taken new.taken
EngineStates mode (Err (Position k)) old new =
    (text : List ℕ) × ReadsText old new text × (fault_of mode text ≡ Some k)
    × Keeps old.taken new.taken
EngineStates mode (Err Memory) old new = Keeps old.taken new.taken
EngineStates mode (Err Read) old new = Keeps old.taken new.taken
EngineStates mode (Err Write) old new =
    (text sent others : List ℕ) × ReadsText old new text × IsOutput mode text (sent ++ others)
    × Appends old.taken new.taken sent

-- what `bounded_engine` read and wrote between the old state and the new one. `Ok`: the reader is
-- at its end, and the writer took the output of all that it gave. `NotAscii`: the mode does not
-- take all bytes, the error holds the position of the first non-ASCII byte of what was read, and
-- the writer took what is written of the bytes before it if an error ends the input. `TooLong`:
-- the first `2^64` bytes or more are an input, and the writer took what is written of them so.
-- `Memory`: nothing was read or written. `Read`: the writer took what is written so of the bytes
-- given before the reader failed. `Write`: the writer took a prefix of what is written so of a
-- part of the bytes given, or of the output of all, and the reader is at its end; what it has left
-- is known unless a read failed.
abbrev pub BoundedStates : BoundedMode → Result (Unit {0}) BoundedFault → IoState → IoState
    → Type 0
BoundedStates mode (Ok _) old new =
    (text output : List ℕ) × Consumes old.remaining new.remaining text × IsAtEnd new.remaining
    × IsInput mode text × IsWholeOutput mode text output × Appends old.taken new.taken output
BoundedStates mode (Err (bounded.NotAscii n)) old new =
    (bytes output : List ℕ) × Consumes old.remaining new.remaining bytes
    × (takes_all mode ≡ false) × FirstOther bytes 0 (length bytes) n
    × IsCutOutput mode (take n bytes) output × Appends old.taken new.taken output
BoundedStates mode (Err bounded.TooLong) old new =
    (bytes text output : List ℕ) × Consumes old.remaining new.remaining bytes
    × IsCutAt mode bytes text output × (2 ^ 64 ≤ length text) × Appends old.taken new.taken output
BoundedStates mode (Err bounded.Memory) old new =
    Keeps old.remaining new.remaining × Keeps old.taken new.taken
BoundedStates mode (Err bounded.Read) old new =
    (text output : List ℕ) × (left : Option (List ℕ)) × Consumes old.remaining left text
    × IsCutAt mode text text output × Appends old.taken new.taken output
BoundedStates mode (Err bounded.Write) old new =
    (bytes sent others : List ℕ) × (left : Option (List ℕ)) × Consumes old.remaining left bytes
    × (new.failures ≡ old.failures → new.remaining ≡ left) × Appends old.taken new.taken sent
    × (((text : List ℕ) × IsCutAt mode bytes text (sent ++ others))
    ⊎ (IsAtEnd left × IsInput mode bytes × IsWholeOutput mode bytes (sent ++ others)))
