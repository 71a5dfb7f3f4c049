-- Writes and flushes that a history tells of, one after another.
use Rattle.std.proofs.Common.{◌≡◌, ℕ, List, [], ◌∷◌, ◌++◌, Option, ap, arith, refl, subst, sym, ◌∙◌}
use Rattle.std.proofs.Common.{append_assoc, append-nil, map}
use Rattle.ascii_devices.proofs.HistoryLemmas.{Grows-trans, sent_of-all, sent_of-append}
use Rattle.ascii_devices.specs.Devices.{Grows, received_of, sent_of, write_of}
use Rattle.ascii_devices.specs.declared.log.Event.{Event}
use Rattle.ascii_devices.specs.declared.log.Event.TheVariants.{Flushed, Read, Received, Sent}
use Rattle.ascii_lines.specs.History.{AreWrites, TellsSent}
use Rattle.ascii_lines.specs.Serve.{AtEachRead, IsFlushed}

pub AreWrites-append : (xs ys : List Event) → AreWrites xs → AreWrites ys → AreWrites (xs ++ ys)
AreWrites-append [] ys first then = then
AreWrites-append (Sent b ∷ xs) ys first then = AreWrites-append xs ys first then
AreWrites-append (Flushed ∷ xs) ys first then = AreWrites-append xs ys first then
AreWrites-append _ ys first then = absurd first

pub AreWrites-sent : (bytes : List ℕ) → AreWrites (write_of bytes)
AreWrites-sent [] = tt
AreWrites-sent (b ∷ bytes) = AreWrites-sent bytes

-- the bytes were written
pub TellsSent-write : {a b : Option (List Event)} (sent : List ℕ)
    → Grows a b (write_of sent) → TellsSent a b sent
TellsSent-write sent grows = grind (arith, AreWrites-sent, sent_of-all)

pub TellsSent-trans : {a b c : Option (List Event)} (sent more : List ℕ)
    → TellsSent a b sent → TellsSent b c more → TellsSent a c (sent ++ more)
TellsSent-trans {a} {b} {c} sent more one two =
    grind (arith, Grows-trans, AreWrites-append, sent_of-append)

-- ---- what writes and reads gave and sent

-- writes received nothing
pub received_of-writes : (events : List Event) → AreWrites events → received_of events ≡ []
received_of-writes [] writes = refl
received_of-writes (Sent b ∷ events) writes = received_of-writes events writes
received_of-writes (Flushed ∷ events) writes = received_of-writes events writes
received_of-writes _ writes = absurd writes

pub received_of-bytes : (bytes : List ℕ) → received_of (map Received bytes) ≡ bytes
received_of-bytes [] = refl
received_of-bytes (b ∷ bytes) = ap (λ zs. b ∷ zs) (received_of-bytes bytes)

pub sent_of-bytes : (bytes : List ℕ) → sent_of (map Received bytes) ≡ []
sent_of-bytes [] = refl
sent_of-bytes (b ∷ bytes) = sent_of-bytes bytes

-- ---- at each read

pub AtEachRead-append : (P : List Event → Type 0) (past xs ys : List Event)
    → AtEachRead P past xs → AtEachRead P (past ++ xs) ys → AtEachRead P past (xs ++ ys)
AtEachRead-append P past [] ys first then = grind (arith, append-nil)
AtEachRead-append P past (Read ∷ xs) ys first then = (
  first.0,
  AtEachRead-append P (past ++ Read ∷ []) xs ys first.1
      (subst (λ p. AtEachRead P p ys) (sym (append_assoc past (Read ∷ []) xs)) then),
)
AtEachRead-append P past (other ∷ xs) ys first then =
    AtEachRead-append P (past ++ other ∷ []) xs ys first
    (subst (λ p. AtEachRead P p ys) (sym (append_assoc past (other ∷ []) xs)) then)

pub AtEachRead-writes : (P : List Event → Type 0) (past events : List Event) → AreWrites events
    → AtEachRead P past events
AtEachRead-writes P past [] writes = tt
AtEachRead-writes P past (Sent b ∷ events) writes =
    AtEachRead-writes P (past ++ Sent b ∷ []) events writes
AtEachRead-writes P past (Flushed ∷ events) writes =
    AtEachRead-writes P (past ++ Flushed ∷ []) events writes
AtEachRead-writes P past _ writes = absurd writes

pub AtEachRead-received : (P : List Event → Type 0) (past : List Event) (bytes : List ℕ)
    → AtEachRead P past (map Received bytes)
AtEachRead-received P past [] = tt
AtEachRead-received P past (b ∷ bytes) = AtEachRead-received P (past ++ Received b ∷ []) bytes

-- events after others, which end in a flush
pub IsFlushed-after : (past events : List Event) → IsFlushed events → IsFlushed (past ++ events)
IsFlushed-after past events (before, after, is, none) = (
  past ++ before,
  after,
  ap (λ xs. past ++ xs) is ∙ sym (append_assoc past before (Flushed ∷ after)),
  none,
)

-- a flush after writes
pub IsFlushed-last : (events : List Event) → IsFlushed (events ++ Flushed ∷ [])
IsFlushed-last events = (events, [], refl, refl)

-- ---- the end of an input
