-- Which bytes passed between two times at a device, by all that it says of itself.
use Rattle.std.specs.Prelude.{◌≡◌, ℕ, List, ◌++◌, IfSome, Some}
use Rattle.std.specs.Io.KnownBytes.{Appends, Consumes}
use Rattle.std.specs.declared.option.Option.{Option}
use Rattle.ascii_devices.specs.Devices.{Aside, received_of, sent_of}
use Rattle.ascii_devices.specs.declared.Sink as sink
use Rattle.ascii_devices.specs.declared.Source as source
use Rattle.ascii_devices.specs.declared.log.Event.{Event}

-- the source gave exactly these bytes, by its history too, if that is kept. After them it has `rest`
-- yet to give, of which nothing is known once a call has failed.
pub record Gives {S : Type 0} (says : source.Ghosts S) (old new : S) (bytes : List ℕ) : Type 0 where
  pub rest : Option (List ℕ)
  pub gave : Consumes (says.rest old) rest bytes
  pub left : says.failures new ≡ says.failures old → says.rest new ≡ rest
  pub told : IfSome (says.history old) (λ before. (events : List Event)
      × (says.history new ≡ Some (before ++ events)) × (received_of events ≡ bytes))

-- what a source says of itself: the bytes that it has yet to give, if they are known; how many of
-- its calls have failed; what has happened at it, if that is kept; and its other direction
pub record SourceState : Type 0 where
  pub rest : Option (List ℕ)
  pub failures : ℕ
  pub history : Option (List Event)
  pub aside : Aside

-- the state of a source, by what the `Source` says of it
abbrev pub source_state : {S : Type 0} → source.Ghosts S → S → SourceState
source_state says device = record {
  rest = says.rest device;
  failures = says.failures device;
  history = says.history device;
  aside = says.aside device;
}

-- a state says of itself what it is
abbrev pub of_state : source.Ghosts SourceState
of_state = record {
  rest = λ state. state.rest;
  failures = λ state. state.failures;
  history = λ state. state.history;
  aside = λ state. state.aside;
}

-- the sink took exactly these bytes, by its history too, if that is kept
pub record Takes {K : Type 0} (says : sink.Ghosts K) (old new : K) (bytes : List ℕ) : Type 0 where
  pub took : Appends (says.taken old) (says.taken new) bytes
  pub told : IfSome (says.history old) (λ before. (events : List Event)
      × (says.history new ≡ Some (before ++ events)) × (sent_of events ≡ bytes))
