-- What was appended to an output, one piece after another.
use Rattle.std.proofs.Common.{◌≡◌, ◌+◌, ◌-◌, ℕ, List, [], ◌++◌, Option, Bool, true, arith, false}
use Rattle.std.proofs.Common.{append-nil, ap, subst, ◌∙◌}
use Rattle.std.proofs.lemmas.Bool.{false≢true}
use Rattle.std.proofs.lemmas.List.{append_assoc, map-append}
use Rattle.std.specs.Io.KnownBytes.{Appends}
use Rattle.std.proofs.KnownBytes.{Appends-kept, Appends-nil, Appends-trans, Keeps-refl, Keeps-trans}
use Rattle.ascii_devices.specs.Devices.{Grows, write_of}
use Rattle.ascii_devices.specs.declared.log.Event.{Event}
use Rattle.ascii_devices.specs.Buffered.{AppendsBy, AppendsBytes, MayFail, OutputState, Sends}
use Rattle.ascii_devices.specs.Buffered.{SendsNothing}
use Rattle.ascii_devices.proofs.HistoryLemmas.{Grows-nil, Grows-trans}
use Rattle.ascii_devices.proofs.ListLemmas.{append_two}

pub Sends-nil : (a : OutputState) → Sends a a []
Sends-nil a = (Appends-nil a.taken, Grows-nil a.history)

-- more bytes were sent, by the bytes taken and the histories at the three times
pub sends_more : (a b c : Option (List ℕ)) (h i j : Option (List Event)) (sent more : List ℕ)
    → Appends a b sent × Grows h i (write_of sent) → Appends b c more × Grows i j (write_of more)
    → Appends a c (sent ++ more) × Grows h j (write_of (sent ++ more))
sends_more a b c h i j sent more is given = grind (arith, Appends-trans, map-append, Grows-trans)

-- the bytes were sent, and then more
pub Sends-trans : (a b c : OutputState) (sent more : List ℕ)
    → Sends a b sent → Sends b c more → Sends a c (sent ++ more)
Sends-trans a b c sent more sends =
    sends_more a.taken b.taken c.taken a.history b.history c.history sent more sends

-- the bytes were sent, and then nothing
pub Sends-kept : (a b c : OutputState) (sent : List ℕ)
    → Sends a b sent → SendsNothing b c → Sends a c sent
Sends-kept a b c sent is given = grind (arith, Appends-kept)

-- one piece and then another
appends_by : (p q r : Bool) (a b c : OutputState) (first second : List ℕ)
    → AppendsBy p q a b first → AppendsBy q r b c second → AppendsBy p r a c (first ++ second)
appends_by false false false a b c first second (sent, sends, is, same)
    (more, sends_more, is_more, same_more) = (
      sent ++ more,
      Sends-trans a b c sent more sends sends_more,
      append_two sent more c.buffer.bytes b.buffer.bytes a.buffer.bytes first second is is_more,
      same_more ∙ same,
    )
appends_by false false true a b c first second (sent, sends, is, same)
    ((more, others, sends_more, is_more), count) = (
      (
        sent ++ more,
        others,
        Sends-trans a b c sent more sends sends_more,
        append_two sent more others b.buffer.bytes a.buffer.bytes first second is is_more,
      ),
      count ∙ ap (λ n. n + 1) same,
    )
appends_by false true false a b c first second one two = absurd (false≢true two.0)
appends_by false true true a b c first second ((sent, others, sends, is), count)
    (_, nothing, same) = (
      (
        sent,
        others ++ second,
        Sends-kept a b c sent sends nothing,
        grind (arith, append_assoc),
      ),
      same ∙ count,
    )
appends_by true false r a b c first second one two = absurd (false≢true one.0)
appends_by true true r a b c first second (_, (kept, still), same)
    (broken, (kept_more, still_more), same_more) = grind (arith, Keeps-trans)

pub AppendsBytes-trans : {a b c : OutputState} (first second : List ℕ)
    → AppendsBytes a b first → AppendsBytes b c second → AppendsBytes a c (first ++ second)
AppendsBytes-trans {a} {b} {c} first second one two = grind (arith, appends_by)

pub AppendsBytes-nil : (a : OutputState) → AppendsBytes a a []
AppendsBytes-nil a = grind (arith, Sends-nil, append-nil, Keeps-refl)

-- bytes that are equal to those appended
pub AppendsBytes-is : {a b : OutputState} {bytes same : List ℕ}
    → same ≡ bytes → AppendsBytes a b same → AppendsBytes a b bytes
AppendsBytes-is {a} {b} is appends = subst (AppendsBytes a b) is appends

pub MayFail-still : {a b : OutputState} (bytes : List ℕ)
    → MayFail a → AppendsBytes a b bytes → MayFail b
MayFail-still {a} {b} bytes may appends = grind (arith, false≢true)
