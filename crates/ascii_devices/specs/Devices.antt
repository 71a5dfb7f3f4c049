-- What a call of a device does to its count of failures and to its history.
use Rattle.std.specs.Prelude.{◌≡◌, ℕ, ◌+◌, List, [], ◌∷◌, ◌++◌, ⊤, None, Some, MatchResult, map}
use Rattle.std.specs.declared.option.Option.{Option}
use Rattle.std.specs.declared.result.Result.{Result}
use Rattle.ascii_devices.specs.declared.log.Event.{Event}
use Rattle.ascii_devices.specs.declared.log.Event.TheVariants.{Read, Received, Sent}

-- the count of failures: unchanged on `Ok`, one more on `Err`
abbrev pub CountsFault : {T E : Type 0} → ℕ → ℕ → Result T E → Type 0
CountsFault old new result = MatchResult result (λ _. new ≡ old) (λ _. new ≡ old + 1)

-- what a device of both directions has in the other direction: its bytes there, if they are known,
-- and how many calls have failed
pub record Aside : Type 0 where
  pub bytes : Option (List ℕ)
  pub failures : ℕ

-- a device of one direction
abbrev pub no_aside : Aside
no_aside = record { bytes = None; failures = 0 }

-- a history, if it is kept, grows by these events
abbrev pub Grows : Option (List Event) → Option (List Event) → List Event → Type 0
Grows None new events = ⊤
Grows (Some xs) None events = ⊥
Grows (Some xs) (Some ys) events = ys ≡ xs ++ events

-- the events of a read that gave these bytes: it was called, and they came
abbrev pub read_of : List ℕ → List Event
read_of bytes = Read ∷ map Received bytes

-- the events of a write that took these bytes
abbrev pub write_of : List ℕ → List Event
write_of bytes = map Sent bytes

-- the bytes that were received by these events
abbrev pub received_of : List Event → List ℕ
received_of [] = []
received_of (Received byte ∷ events) = byte ∷ received_of events
received_of (other ∷ events) = received_of events

-- the bytes that were sent by these events
abbrev pub sent_of : List Event → List ℕ
sent_of [] = []
sent_of (Sent byte ∷ events) = byte ∷ sent_of events
sent_of (other ∷ events) = sent_of events
