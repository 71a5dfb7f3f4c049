-- What the history of a sink says of the writes and flushes that came to it.
use Rattle.std.specs.Prelude.{◌≡◌, ℕ, List, [], ◌∷◌, ◌++◌, ⊤}
use Rattle.std.specs.declared.option.Option.{Option}
use Rattle.ascii_devices.specs.Devices.{Grows, sent_of}
use Rattle.ascii_devices.specs.declared.log.Event.{Event}
use Rattle.ascii_devices.specs.declared.log.Event.TheVariants.{Read, Received}

-- the device was not asked for bytes and gave none
abbrev pub AreWrites : List Event → Type 0
AreWrites [] = ⊤
AreWrites (Read ∷ events) = ⊥
AreWrites (Received b ∷ events) = ⊥
AreWrites (other ∷ events) = AreWrites events

-- the last read of these events gave no bytes: only writes and flushes come after it
abbrev pub EndsInEmptyRead : List Event → Type 0
EndsInEmptyRead events =
    (before after : List Event) × (events ≡ before ++ Read ∷ after) × AreWrites after

-- the history, if it is kept, grew by writes and flushes only, and `sent` is what was written
pub record TellsSent (old new : Option (List Event)) (sent : List ℕ) : Type 0 where
  pub events : List Event
  pub grows : Grows old new events
  pub writes : AreWrites events
  pub noted : sent_of events ≡ sent
