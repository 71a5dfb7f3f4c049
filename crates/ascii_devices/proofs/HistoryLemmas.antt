-- What happened at a device, one call after another.
use Rattle.std.proofs.Common.{◌≡◌, ℕ, ◌+◌, List, [], ◌∷◌, ◌++◌, Option, Some, map, ap, sym}
use Rattle.std.proofs.Common.{append_assoc, append-nil, arith, refl, subst, ◌∙◌}
use Rattle.std.specs.Prelude.{IfSome}
use Rattle.std.proofs.KnownBytes.{Appends-kept, Appends-nil, Appends-trans, Consumes-nil}
use Rattle.std.proofs.KnownBytes.{Consumes-trans}
use Rattle.std.specs.Io.KnownBytes.{Appends, Consumes, IsAtEnd, Keeps}
use Rattle.ascii_devices.specs.Devices.{Grows, read_of, received_of, sent_of, write_of}
use Rattle.ascii_devices.specs.States.{Gives, Takes}
use Rattle.ascii_devices.specs.declared.Sink as sink
use Rattle.ascii_devices.specs.declared.Source as source
use Rattle.ascii_devices.specs.declared.log.Event.{Event}
use Rattle.ascii_devices.specs.declared.log.Event.TheVariants.{Flushed, Read, Received, Sent}

pub Grows-nil : (a : Option (List Event)) → Grows a a []
Grows-nil a = grind (arith, append-nil)

pub Grows-trans : (a b c : Option (List Event)) (xs ys : List Event)
    → Grows a b xs → Grows b c ys → Grows a c (xs ++ ys)
Grows-trans a b c xs ys first then = grind (arith, append_assoc)

-- ---- the bytes that passed

pub received_of-append : (xs ys : List Event) → received_of (xs ++ ys) ≡ received_of xs ++ received_of ys
received_of-append [] ys = refl
received_of-append (Read ∷ xs) ys = received_of-append xs ys
received_of-append (Received byte ∷ xs) ys = ap (λ bs. byte ∷ bs) (received_of-append xs ys)
received_of-append (Sent byte ∷ xs) ys = received_of-append xs ys
received_of-append (Flushed ∷ xs) ys = received_of-append xs ys

pub sent_of-append : (xs ys : List Event) → sent_of (xs ++ ys) ≡ sent_of xs ++ sent_of ys
sent_of-append [] ys = refl
sent_of-append (Read ∷ xs) ys = sent_of-append xs ys
sent_of-append (Received byte ∷ xs) ys = sent_of-append xs ys
sent_of-append (Sent byte ∷ xs) ys = ap (λ bs. byte ∷ bs) (sent_of-append xs ys)
sent_of-append (Flushed ∷ xs) ys = sent_of-append xs ys

received_of-all : (bytes : List ℕ) → received_of (map Received bytes) ≡ bytes
received_of-all [] = refl
received_of-all (byte ∷ bytes) = ap (λ bs. byte ∷ bs) (received_of-all bytes)

pub sent_of-all : (bytes : List ℕ) → sent_of (write_of bytes) ≡ bytes
sent_of-all [] = refl
sent_of-all (byte ∷ bytes) = ap (λ bs. byte ∷ bs) (sent_of-all bytes)

-- ---- histories that are kept

-- what a history tells of the bytes `of` its events
abbrev pub Tells : (List Event → List ℕ) → Option (List Event) → Option (List Event) → List ℕ
    → Type 0
Tells of old new bytes = IfSome old (λ before. (events : List Event)
    × (new ≡ Some (before ++ events)) × (of events ≡ bytes))

pub tells-by : (of : List Event → List ℕ) (a b : Option (List Event)) (events : List Event)
    (bytes : List ℕ) → Grows a b events → of events ≡ bytes → Tells of a b bytes
tells-by of a b events bytes grows is = grind arith

-- events before and after
pub tells-more : (of : List Event → List ℕ)
    → ((xs ys : List Event) → of (xs ++ ys) ≡ of xs ++ of ys)
    → (a b c : Option (List Event)) (bytes more : List ℕ)
    → Tells of a b bytes → Tells of b c more → Tells of a c (bytes ++ more)
tells-more of both ys b c bytes more first then = grind (arith, append_assoc)

tells-nil : (of : List Event → List ℕ) → of [] ≡ [] → (a : Option (List Event))
    → Tells of a a []
tells-nil of none a = tells-by of a a [] [] (Grows-nil a) none

received-read : (bytes : List ℕ) → received_of (read_of bytes) ≡ bytes
received-read bytes = received_of-all bytes

-- ---- what a source gave

module _ {S : Type 0} (says : source.Ghosts S) where
  pub Gives-nil : (a : S) → Gives says a a []
  Gives-nil a = record {
    rest = says.rest a;
    gave = Consumes-nil (says.rest a);
    left = λ same. refl;
    told = tells-nil received_of refl (says.history a);
  }

  -- some bytes, none of its calls failed, and then more
  pub Gives-trans : (a b c : S) (bytes more : List ℕ) → says.failures b ≡ says.failures a
      → Gives says a b bytes → Gives says b c more → Gives says a c (bytes ++ more)
  Gives-trans a b c bytes more kept first then = record {
    rest = then.rest;
    gave = grind (arith, Consumes-trans);
    left = λ same. then.left (same ∙ sym kept);
    told = tells-more received_of received_of-append (says.history a) (says.history b)
        (says.history c) bytes more first.told then.told;
  }

  -- one read
  pub read_gives : (a b : S) (bytes : List ℕ) → Consumes (says.rest a) (says.rest b) bytes
      → Grows (says.history a) (says.history b) (read_of bytes) → Gives says a b bytes
  read_gives a b bytes gave grows = grind (arith, tells-by, received-read)

  -- a read that failed
  pub read_fails : (a b : S) → says.failures b ≡ says.failures a + 1
      → Grows (says.history a) (says.history b) (read_of []) → Gives says a b []
  read_fails a b failed grows = record {
    rest = says.rest a;
    gave = Consumes-nil (says.rest a);
    left = λ same. absurd (omega (arith, failed, same));
    told = tells-by received_of (says.history a) (says.history b) (read_of []) [] grows refl;
  }

  -- some bytes, none of its calls failed, and then more by one read
  pub Gives-read : (a b c : S) (bytes more : List ℕ) → says.failures b ≡ says.failures a
      → says.failures c ≡ says.failures b → Gives says a b bytes
      → Consumes (says.rest b) (says.rest c) more
      → Grows (says.history b) (says.history c) (read_of more) → Gives says a c (bytes ++ more)
  Gives-read a b c bytes more kept still gives then grows = grind (arith, Gives-trans, read_gives)

  -- if no call failed, what is left is what the source says of itself
  pub Gives-end : (a b : S) (bytes : List ℕ) (gives : Gives says a b bytes)
      → says.failures b ≡ says.failures a → IsAtEnd (says.rest b) → IsAtEnd gives.rest
  Gives-end a b bytes gives same end = subst IsAtEnd (gives.left same) end

  -- some bytes, none of its calls failed, and then a read failed
  pub Gives-failed : (a b c : S) (bytes : List ℕ) → says.failures b ≡ says.failures a
      → says.failures c ≡ says.failures b + 1 → Gives says a b bytes
      → Grows (says.history b) (says.history c) (read_of []) → Gives says a c bytes
  Gives-failed a b c bytes kept failed gives grows = subst (Gives says a c) (append-nil bytes)
      (Gives-trans a b c bytes [] kept gives (read_fails b c failed grows))

-- ---- what a sink took

module _ {K : Type 0} (says : sink.Ghosts K) where
  pub Takes-nil : (a : K) → Takes says a a []
  Takes-nil a = record {
    took = Appends-nil (says.taken a);
    told = tells-nil sent_of refl (says.history a);
  }

  -- some bytes and then more
  pub Takes-trans : (a b c : K) (bytes more : List ℕ) → Takes says a b bytes
      → Takes says b c more → Takes says a c (bytes ++ more)
  Takes-trans a b c bytes more first then = record {
    took = grind (arith, Appends-trans);
    told = tells-more sent_of sent_of-append (says.history a) (says.history b)
        (says.history c) bytes more first.told then.told;
  }

  -- bytes that were sent, and bytes that were sent before a flush
  pub Takes-sent : (a b : K) (bytes : List ℕ) → Appends (says.taken a) (says.taken b) bytes
      → Grows (says.history a) (says.history b) (write_of bytes) → Takes says a b bytes
  Takes-sent a b bytes took grows = grind (arith, tells-by, sent_of-all)

  pub Takes-flushed : (a b : K) (bytes : List ℕ) → Appends (says.taken a) (says.taken b) bytes
      → Grows (says.history a) (says.history b) (write_of bytes ++ Flushed ∷ [])
      → Takes says a b bytes
  Takes-flushed a b bytes took grows =
      grind (arith, tells-by, sent_of-append, append-nil, sent_of-all)

  -- some bytes, and then nothing happened at it
  pub Takes-kept : (a b c : K) (bytes : List ℕ) → Takes says a b bytes
      → Keeps (says.taken b) (says.taken c) → says.history c ≡ says.history b
      → Takes says a c bytes
  Takes-kept a b c bytes takes kept same = grind (arith, Appends-kept)
