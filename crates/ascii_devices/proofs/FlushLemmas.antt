-- The flushes in a history.
use Rattle.std.proofs.Common.{◌≡◌, ◌+◌, ℕ, List, [], ◌∷◌, ◌++◌, ap, map, refl, arith}
use Rattle.ascii_devices.specs.Flushes.{flushes_in}
use Rattle.ascii_devices.specs.declared.log.Event.{Event}
use Rattle.ascii_devices.specs.declared.log.Event.TheVariants.{Flushed, Read, Received, Sent}

pub flushes_in-flushed : (events : List Event)
    → flushes_in (events ++ Flushed ∷ []) ≡ flushes_in events + 1
flushes_in-flushed [] = refl
flushes_in-flushed (Flushed ∷ events) = ap (λ n. n + 1) (flushes_in-flushed events)
flushes_in-flushed (Read ∷ events) = flushes_in-flushed events
flushes_in-flushed (Received byte ∷ events) = flushes_in-flushed events
flushes_in-flushed (Sent byte ∷ events) = flushes_in-flushed events

-- other events
flushes_in-other : (events others : List Event) → flushes_in others ≡ 0
    → flushes_in (events ++ others) ≡ flushes_in events
flushes_in-other [] others none = none
flushes_in-other (Flushed ∷ events) others none = grind (arith, flushes_in-other events others none)
flushes_in-other (Read ∷ events) others none = flushes_in-other events others none
flushes_in-other (Received byte ∷ events) others none = flushes_in-other events others none
flushes_in-other (Sent byte ∷ events) others none = flushes_in-other events others none

none_sent : (bytes : List ℕ) → flushes_in (map Sent bytes) ≡ 0
none_sent [] = refl
none_sent (byte ∷ bytes) = none_sent bytes

none_received : (bytes : List ℕ) → flushes_in (map Received bytes) ≡ 0
none_received [] = refl
none_received (byte ∷ bytes) = none_received bytes

pub flushes_in-sent : (events : List Event) (bytes : List ℕ)
    → flushes_in (events ++ map Sent bytes) ≡ flushes_in events
flushes_in-sent events bytes = flushes_in-other events (map Sent bytes) (none_sent bytes)

pub flushes_in-received : (events : List Event) (bytes : List ℕ)
    → flushes_in (events ++ map Received bytes) ≡ flushes_in events
flushes_in-received events bytes = grind (arith, flushes_in-other, none_received)

pub flushes_in-read : (events : List Event)
    → flushes_in (events ++ Read ∷ []) ≡ flushes_in events
flushes_in-read events = flushes_in-other events (Read ∷ []) refl
