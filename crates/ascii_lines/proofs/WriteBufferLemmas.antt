-- Bytes that were written through a buffer, one piece after another.
use Rattle.std.proofs.Common.{◌≡◌, ℕ, List, [], ◌++◌, append_assoc, append-nil, OnErr, Result, true}
use Rattle.std.proofs.Common.{false, ◌-◌, ◌^◌, ◌<◌, arith}
use Rattle.std.proofs.KnownBytes.{Appends-trans}
use Rattle.ascii_devices.specs.Buffered.{AppendsBytes, FinishOutcome, OutputState}
use Rattle.ascii_devices.specs.declared.DeviceFault.{DeviceFault}
use Rattle.ascii_devices.proofs.ListLemmas.{append_two}
use Rattle.ascii_lines.specs.WriteBuffer.{Passes, PassesPrefix, PutsBytes}
use Rattle.ascii_lines.proofs.HistoryLemmas.{TellsSent-trans, TellsSent-write}

-- one piece and then another
pub Passes-trans : {a b c : OutputState} (first second : List ℕ)
    → Passes a b first → Passes b c second → Passes a c (first ++ second)
Passes-trans {a} {b} {c} first second one two =
    grind (arith, Appends-trans, TellsSent-trans, append_two)

-- one piece, and then a part of another
pub Passes-prefix : {a b c : OutputState} (first second : List ℕ)
    → Passes a b first → PassesPrefix b c second → PassesPrefix a c (first ++ second)
Passes-prefix {a} {b} {c} first second one two = record {
  sent = one.sent ++ two.sent;
  others = two.others;
  took = Appends-trans a.taken b.taken c.taken one.sent two.sent one.took two.took;
  told = TellsSent-trans one.sent two.sent one.told two.told;
  all = grind (arith, append_two);
}

-- a part of one piece is a part of it and more
pub PassesPrefix-more : {a b : OutputState} (first second : List ℕ)
    → PassesPrefix a b first → PassesPrefix a b (first ++ second)
PassesPrefix-more {a} {b} first second one = record {
  sent = one.sent;
  others = one.others ++ second;
  took = one.took;
  told = one.told;
  all = grind (arith, append_assoc);
}

-- ---- through the buffer of a sink

-- bytes were appended to a buffer through which no write had failed
pub puts : {a b : OutputState} (bytes : List ℕ) → a.buffer.is_broken ≡ false
    → a.failures < 2 ^ 64 - 1 → AppendsBytes a b bytes → PutsBytes a b bytes
puts {a} {b} bytes ready low appends = grind (arith, TellsSent-write)

-- the bytes of a buffer were to be written, and a write or the flush failed
pub finish_fails : (a b : OutputState) (result : Result (Unit {0}) DeviceFault)
    → a.buffer.is_broken ≡ false → a.failures < 2 ^ 64 - 1
    → FinishOutcome a.buffer.is_broken a b result → OnErr result (b.buffer.is_broken ≡ true)
    → b.buffer.size ≡ a.buffer.size → b.aside ≡ a.aside → OnErr result (PutsBytes a b [])
finish_fails a b result ready low outcome broken size aside =
    grind (arith, append-nil, TellsSent-write)
