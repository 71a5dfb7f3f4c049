-- What a buffer of fixed size holds before a sink, and what writing bytes through it does.
use Rattle.std.specs.Prelude.{[], ◌≤◌, OnErr, OnOk, length, ◌≡◌, ℕ, List, ◌++◌, true, false}
use Rattle.std.specs.Io.KnownBytes.{Appends}
use Rattle.ascii_devices.specs.Buffered.{Finishes, IsReady, OutputState}
use Rattle.ascii_devices.specs.declared.DeviceFault.{DeviceFault}
use Rattle.std.specs.declared.result.Result.{Result}
use Rattle.ascii_lines.specs.Failures.{one_more}
use Rattle.ascii_lines.specs.History.{TellsSent}

-- `bytes` were written: of the bytes held before and then `bytes`, the sink took a prefix, and the
-- buffer holds the others
pub record Passes (old new : OutputState) (bytes : List ℕ) : Type 0 where
  pub sent : List ℕ
  pub took : Appends old.taken new.taken sent
  pub told : TellsSent old.history new.history sent
  pub all : sent ++ new.buffer.bytes ≡ old.buffer.bytes ++ bytes

-- the sink failed while `bytes` were written: of the bytes held before and then `bytes`, it took a
-- prefix
pub record PassesPrefix (old new : OutputState) (bytes : List ℕ) : Type 0 where
  pub sent : List ℕ
  pub others : List ℕ
  pub took : Appends old.taken new.taken sent
  pub told : TellsSent old.history new.history sent
  pub all : sent ++ others ≡ old.buffer.bytes ++ bytes

-- ---- cited by private functions only

-- `bytes` were put through a buffer: `Passes`; or a write failed, `PassesPrefix`, and one more
-- failure is counted
pub record PutsBytes (old new : OutputState) (bytes : List ℕ) : Type 0 where
  pub whole : new.buffer.is_broken ≡ false
      → Passes old new bytes × (new.failures ≡ old.failures)
  pub broken : new.buffer.is_broken ≡ true
      → PassesPrefix old new bytes × (new.failures ≡ one_more old.failures)
  pub size : new.buffer.size ≡ old.buffer.size
  pub aside : new.aside ≡ old.aside

-- what passing on all bytes of a buffer and flushing the sink does: it is done; or a call failed
pub record SendsAll (old new : OutputState) (result : Result (Unit {0}) DeviceFault) : Type 0 where
  pub ok : OnOk result (Finishes old new × (new.failures ≡ old.failures))
  pub ready : OnOk result (IsReady new.buffer)
  pub err : OnErr result (PutsBytes old new [])
  pub broken : OnErr result (new.buffer.is_broken ≡ true)
  pub within : length new.buffer.bytes ≤ new.buffer.size
  pub size : new.buffer.size ≡ old.buffer.size
  pub aside : new.aside ≡ old.aside
