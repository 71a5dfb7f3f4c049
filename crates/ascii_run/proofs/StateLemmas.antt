-- The outcome of a run by the bytes that its reader has left and those that its writer has taken,
-- for a caller whose devices tell them.
use Rattle.std.proofs.Common.{◌≡◌, ◌≢◌, List, Option, Result, Err, ℕ, arith}
use Rattle.std.specs.Io.KnownBytes.{Appends, Consumes, IsAtEnd}
use Rattle.ascii_devices.specs.declared.Sink as sink
use Rattle.ascii_devices.specs.declared.Source as source
use Rattle.ascii_run.specs.Bounded.{BoundedOutcome}
use Rattle.ascii_run.specs.Engine.{EngineOutcome}
use Rattle.ascii_run.specs.Reading.{Counts}
use Rattle.ascii_run.specs.declared.bounded.BoundedMode.{BoundedMode}
use Rattle.ascii_run.specs.declared.faults.BoundedFault.{BoundedFault}
use Rattle.ascii_run.specs.declared.faults.EngineFault.{EngineFault}
use Rattle.ascii_run.specs.declared.faults.EngineFault.TheVariants.{Read}
use Rattle.ascii_run.specs.declared.modes.Mode.{Mode}
use Rattle.ascii_run.proofs.OutputBufferLemmas.{Runs}

module _ {S K : Type 0} (source : source.Ghosts S) (sink : sink.Ghosts K) (r t : S) (a b : K) where
  -- the outcome of `engine`: unless a read failed, the reader has lost the bytes that it gave
  pub engine_by_states : (mode : Mode) (result : Result (Unit {0}) EngineFault)
      → Runs source sink (EngineOutcome mode result) r t a b
      → Counts Read (source.failures r) (source.failures t) result
      → (given took : List ℕ)
      × (result ≢ Err Read → Consumes (source.rest r) (source.rest t) given)
      × Appends (sink.taken a) (sink.taken b) took
      × EngineOutcome mode result given (IsAtEnd (source.rest t)) took
  engine_by_states mode result is counts = grind arith

  -- the outcome of `bounded_engine`: unless a read failed, the reader has `left` yet to give
  pub bounded_by_states : (mode : BoundedMode) (result : Result (Unit {0}) BoundedFault)
      → Runs source sink (BoundedOutcome mode result) r t a b
      → (given took : List ℕ) × (left : Option (List ℕ))
      × (source.failures t ≡ source.failures r → source.rest t ≡ left)
      × Consumes (source.rest r) left given
      × Appends (sink.taken a) (sink.taken b) took
      × BoundedOutcome mode result given (IsAtEnd left) took
  bounded_by_states mode result is = grind arith
