-- A sink with a buffer before it, and what appending bytes to them does.
use Rattle.std.specs.Prelude.{◌≡◌, ℕ, ◌+◌, ◌<◌, ◌^◌, List, [], ◌∷◌, ◌++◌, Bool, true, false, ◌-◌, IsTrue}
use Rattle.std.specs.Io.KnownBytes.{Appends, Keeps}
use Rattle.std.specs.declared.option.Option.{Option}
use Rattle.std.specs.declared.result.Result.{Result}
use Rattle.std.specs.declared.result.Result.TheVariants.{Ok, Err}
use Rattle.ascii_devices.specs.Devices.{Aside, Grows, write_of}
use Rattle.ascii_devices.specs.declared.DeviceFault.{DeviceFault}
use Rattle.ascii_devices.specs.declared.Sink.{Ghosts}
use Rattle.ascii_devices.specs.declared.log.Event.{Event}
use Rattle.ascii_devices.specs.declared.log.Event.TheVariants.{Flushed}

-- the bytes that an output buffer holds for the writer, how many fit, and whether a write failed
pub record BufferState : Type 0 where
  pub bytes : List ℕ
  pub size : ℕ
  pub is_broken : Bool

-- the bytes that a sink has taken, how many of its calls have failed, what has happened at it, its
-- other direction, and the buffer before it
pub record OutputState : Type 0 where
  pub taken : Option (List ℕ)
  pub failures : ℕ
  pub history : Option (List Event)
  pub aside : Aside
  pub buffer : BufferState

-- the state of a sink, as what the `Sink` says of it, with a buffer before it
abbrev pub output_state : {K : Type 0} → Ghosts K → K → BufferState → OutputState
output_state sink writer buffer = record {
  taken = sink.taken writer;
  failures = sink.failures writer;
  history = sink.history writer;
  aside = sink.aside writer;
  buffer = buffer;
}

-- the buffer holds no bytes, and no write has failed
abbrev pub IsReady : BufferState → Type 0
IsReady buffer = (buffer.bytes ≡ []) × (buffer.is_broken ≡ false)

-- a write has failed before, or the sink can count one more failure
abbrev pub MayFail : OutputState → Type 0
MayFail state = state.buffer.is_broken ≡ false → state.failures < 2 ^ 64 - 1

-- the sink took the bytes, and its history says that they were sent
abbrev pub Sends : OutputState → OutputState → List ℕ → Type 0
Sends old new bytes =
    Appends old.taken new.taken bytes × Grows old.history new.history (write_of bytes)

-- the sink took a prefix of the bytes, and its history says that this prefix was sent
abbrev pub SendsFront : OutputState → OutputState → List ℕ → Type 0
SendsFront old new bytes = (sent others : List ℕ) × Sends old new sent × (sent ++ others ≡ bytes)

-- the sink took nothing, and its history is unchanged
abbrev pub SendsNothing : OutputState → OutputState → Type 0
SendsNothing old new = Keeps old.taken new.taken × (new.history ≡ old.history)

-- what `AppendsBytes` says, by whether a write had failed before and whether one has failed by now.
-- If none has, the sink took a prefix of the bytes held before followed by `bytes`, and the buffer
-- holds the others. If one failed now, the sink took a prefix of them, and one more failure is
-- counted. If one had failed before, the buffer is still broken and the sink took nothing.
abbrev pub AppendsBy : Bool → Bool → OutputState → OutputState → List ℕ → Type 0
AppendsBy false false old new bytes =
    (sent : List ℕ) × Sends old new sent
    × (sent ++ new.buffer.bytes ≡ old.buffer.bytes ++ bytes) × (new.failures ≡ old.failures)
AppendsBy false true old new bytes =
    SendsFront old new (old.buffer.bytes ++ bytes) × (new.failures ≡ old.failures + 1)
AppendsBy true is_broken old new bytes =
    IsTrue is_broken × SendsNothing old new × (new.failures ≡ old.failures)

-- `bytes` were appended to the buffer and the sink after it, or a write has failed: `AppendsBy`
pub record AppendsBytes (old new : OutputState) (bytes : List ℕ) : Type 0 where
  pub by_failure : AppendsBy old.buffer.is_broken new.buffer.is_broken old new bytes
  pub size : new.buffer.size ≡ old.buffer.size
  pub aside : new.aside ≡ old.aside

-- `AppendsBytes` for a sink and its buffer, as they were and as they are now
abbrev pub AppendsTo : {K : Type 0}
    → Ghosts K → K → BufferState → K → BufferState → List ℕ → Type 0
AppendsTo sink writer buffer writer_now buffer_now bytes =
    AppendsBytes (output_state sink writer buffer) (output_state sink writer_now buffer_now) bytes

-- the sink took all bytes of the buffer, and then it was flushed; its history says so
abbrev pub Finishes : OutputState → OutputState → Type 0
Finishes old new = Appends old.taken new.taken old.buffer.bytes
    × Grows old.history new.history (write_of old.buffer.bytes ++ Flushed ∷ [])

-- the outcome of writing the buffer and flushing the sink, by whether a write had failed before.
-- `Ok`: none had, and the sink took all bytes of the buffer and was flushed. `Err`: a write had
-- failed before, and the sink took nothing; or a write or the flush failed now, the sink took a
-- prefix of the bytes, and one more failure is counted.
abbrev pub FinishOutcome
    : Bool → OutputState → OutputState → Result (Unit {0}) DeviceFault → Type 0
FinishOutcome false old new (Ok _) = Finishes old new × (new.failures ≡ old.failures)
FinishOutcome false old new (Err _) =
    SendsFront old new old.buffer.bytes × (new.failures ≡ old.failures + 1)
FinishOutcome true old new (Ok _) = ⊥
FinishOutcome true old new (Err _) = SendsNothing old new × (new.failures ≡ old.failures)

-- ---- cited by private functions only

-- the state of a sink with no buffer before it
abbrev pub unbuffered : {K : Type 0} → Ghosts K → K → OutputState
unbuffered sink writer =
    output_state sink writer (record { bytes = []; size = 0; is_broken = false })
