-- The output of a bounded run, passed on part by part. Only private functions cite it.
use Rattle.std.specs.Prelude.{◌≡◌, ◌≢◌, ◌⊎◌, ℕ, ◌+◌, List, [], ◌++◌, MatchResult}
use Rattle.std.specs.declared.result.Result.{Result}
use Rattle.std.specs.declared.result.Result.TheVariants.{Ok, Err}
use Rattle.ascii_devices.specs.Buffered.{BufferState}
use Rattle.ascii_devices.specs.States.{Takes}
use Rattle.ascii_devices.specs.declared.Sink.{Ghosts}
use Rattle.ascii_run.specs.declared.bounded.BoundedMode.{BoundedMode}
use Rattle.ascii_run.specs.declared.faults.BoundedFault.{BoundedFault}
use Rattle.ascii_run.specs.declared.faults.BoundedFault.TheVariants.{Write}

-- the state of the front output of a run: its mode, the last byte of the text so far, LF if the
-- text is empty, and its output buffer
pub record FrontState : Type 0 where
  pub mode : BoundedMode
  pub last : ℕ
  pub buffer : BufferState

-- the sink took a prefix of the bytes
abbrev pub TakesFront : {K : Type 0} → Ghosts K → K → K → List ℕ → Type 0
TakesFront says old new bytes =
    (sent others : List ℕ) × Takes says old new sent × (sent ++ others ≡ bytes)

-- what the sink took of `bytes` once the buffer before it was written and it was flushed: all of
-- them, or on an error a prefix of them, and one more of its calls has failed
abbrev pub Passes : {K E : Type 0} → Ghosts K → List ℕ → K → K → Result (Unit {0}) E → Type 0
Passes says bytes old new result = MatchResult result
    (λ _. Takes says old new bytes × (says.failures new ≡ says.failures old))
    (λ _. TakesFront says old new bytes × (says.failures new ≡ says.failures old + 1))

-- the outcome of passing on `bytes`: `Ok`: the writer took them. `Err`, always `Write`: it took a
-- prefix of them, and one more of its calls has failed.
abbrev pub PassesOn : {K : Type 0} → Ghosts K → List ℕ → K → K → Result (Unit {0}) BoundedFault
    → Type 0
PassesOn says bytes old new (Ok _) =
    Takes says old new bytes × (says.failures new ≡ says.failures old)
PassesOn says bytes old new (Err Write) =
    TakesFront says old new bytes × (says.failures new ≡ says.failures old + 1)
PassesOn says bytes old new other = ⊥

-- the outcome of writing `bytes`, which come after a text that the error `fault` ends: the writer
-- took them, and the error stands; or it took a prefix of them, which are some, the error is
-- `Write`, and one more of its calls has failed
abbrev pub StopsWith : {K : Type 0} → Ghosts K → BoundedFault → List ℕ → K → K → BoundedFault
    → Type 0
StopsWith says fault bytes old new result =
    ((result ≡ fault) × Takes says old new bytes × (says.failures new ≡ says.failures old))
    ⊎ ((result ≡ Write) × (bytes ≢ []) × TakesFront says old new bytes
    × (says.failures new ≡ says.failures old + 1))
