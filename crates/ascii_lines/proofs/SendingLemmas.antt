-- Steps at which replies were sent for the handler.
use Rattle.std.proofs.Common.{◌≡◌, ◌≢◌, ◌⊎◌, ◌∙◌, ℕ, ◌<◌, List, [], ◌∷◌, ◌++◌, ap, append_assoc}
use Rattle.std.proofs.Common.{append-nil, arith, inl, inr, length, length-append, refl, subst, sym}
use Rattle.ascii.specs.Lines.{Line}
use Rattle.ascii.specs.declared.iter.spans.Endings.{Endings}
use Rattle.ascii_devices.specs.declared.log.Event.{Event}
use Rattle.ascii_lines.specs.Exchanges.{SendsNothing, bytes_of, given_in, step_bytes}
use Rattle.ascii_lines.specs.Replies.{Reply, Step, rejected, sent_out, skipped, took}
use Rattle.ascii_lines.specs.Serve.{AreSentFirst, AtEachSending, ChannelState}
use Rattle.ascii_lines.specs.Turns.{IsRequested, IsTurn, IsTurnAt, Place, Turns}
use Rattle.ascii_lines.specs.declared.conversation.Awaited.{Awaited}
use Rattle.ascii_lines.specs.declared.conversation.Awaited.TheVariants.{Input, LineEnd, Nothing}
use Rattle.ascii_lines.specs.declared.conversation.Awaited.TheVariants.{Sending}
use Rattle.ascii_lines.specs.declared.conversation.Supply.{Supply}
use Rattle.ascii_lines.specs.declared.line_reader.LineError.{LineError}
use Rattle.ascii_lines.specs.declared.serving.Next.{Next}
use Rattle.ascii_lines.specs.declared.serving.Next.TheVariants as next
use Rattle.ascii_lines.specs.declared.serving.Stop.TheVariants as stop
use Rattle.ascii_lines.proofs.StepLemmas.{requests, some_given}
use Rattle.ascii_lines.proofs.TurnsLemmas.{over_ends, turn_bytes}

-- more events came
sent_then : (first : ChannelState) (events more : List Event) (before : List Step)
    → AreSentFirst first events before → AreSentFirst first (events ++ more) before
sent_then first events more before sent = record {
  past = sent.past;
  later = sent.later ++ more;
  all = ap (λ xs. xs ++ more) sent.all ∙ append_assoc sent.past sent.later more;
  left = sent.left;
  came = sent.came;
  sent = sent.sent;
  flushed = sent.flushed;
}

pub AtEachSending-then : (first : ChannelState) (events more : List Event) (past steps : List Step)
    → AtEachSending (AreSentFirst first events) past steps
    → AtEachSending (AreSentFirst first (events ++ more)) past steps
AtEachSending-then first events more past [] ordered = tt
AtEachSending-then first events more past (sent_out ∷ steps) ordered = (
  sent_then first events more past ordered.0,
  AtEachSending-then first events more (past ++ sent_out ∷ []) steps ordered.1,
)
AtEachSending-then first events more past (other ∷ steps) ordered =
    AtEachSending-then first events more (past ++ other ∷ []) steps ordered

AtEachSending-nothing : (P : List Step → Type 0) (past steps : List Step) → SendsNothing steps
    → AtEachSending P past steps
AtEachSending-nothing P past [] unsent = tt
AtEachSending-nothing P past (sent_out ∷ steps) unsent = absurd unsent
AtEachSending-nothing P past (took input said ∷ steps) unsent =
    AtEachSending-nothing P (past ++ took input said ∷ []) steps unsent
AtEachSending-nothing P past (rejected error said ∷ steps) unsent =
    AtEachSending-nothing P (past ++ rejected error said ∷ []) steps unsent
AtEachSending-nothing P past (skipped bytes ∷ steps) unsent =
    AtEachSending-nothing P (past ++ skipped bytes ∷ []) steps unsent

AtEachSending-append : (P : List Step → Type 0) (past xs ys : List Step) → AtEachSending P past xs
    → AtEachSending P (past ++ xs) ys → AtEachSending P past (xs ++ ys)
AtEachSending-append P past [] ys first then = rw (append-nil past) at then
AtEachSending-append P past (sent_out ∷ xs) ys first then = (
  first.0,
  AtEachSending-append P (past ++ sent_out ∷ []) xs ys first.1
      (subst (λ p. AtEachSending P p ys) (sym (append_assoc past (sent_out ∷ []) xs)) then),
)
AtEachSending-append P past (other ∷ xs) ys first then =
    AtEachSending-append P (past ++ other ∷ []) xs ys first
    (subst (λ p. AtEachSending P p ys) (sym (append_assoc past (other ∷ []) xs)) then)

-- more events came, and steps at which nothing was sent for the handler
pub AtEachSending-more : (first : ChannelState) (events more : List Event)
    (past steps then : List Step) → AtEachSending (AreSentFirst first events) past steps
    → SendsNothing then → AtEachSending (AreSentFirst first (events ++ more)) past (steps ++ then)
AtEachSending-more first events more past steps then ordered unsent =
    AtEachSending-append (AreSentFirst first (events ++ more)) past steps then
    (AtEachSending-then first events more past steps ordered)
    (AtEachSending-nothing (AreSentFirst first (events ++ more)) (past ++ steps) then unsent)

-- replies were sent for the handler
pub AtEachSending-last : (first : ChannelState) (events : List Event) (steps : List Step)
    → AtEachSending (AreSentFirst first events) [] steps → AreSentFirst first events steps
    → AtEachSending (AreSentFirst first events) [] (steps ++ sent_out ∷ [])
AtEachSending-last first events steps ordered sent =
    AtEachSending-append (AreSentFirst first events) [] steps (sent_out ∷ []) ordered (sent, tt)

-- what is so of all steps that follow some is so of those alone
pub AtEachSending-after : (P : List Step → Type 0) (past xs ys : List Step)
    → AtEachSending P past (xs ++ ys) → AtEachSending P (past ++ xs) ys
AtEachSending-after P past [] ys ordered = rw (append-nil past) ordered
AtEachSending-after P past (sent_out ∷ xs) ys ordered =
    subst (λ p. AtEachSending P p ys) (append_assoc past (sent_out ∷ []) xs)
    (AtEachSending-after P (past ++ sent_out ∷ []) xs ys ordered.1)
AtEachSending-after P past (other ∷ xs) ys ordered =
    subst (λ p. AtEachSending P p ys) (append_assoc past (other ∷ []) xs)
    (AtEachSending-after P (past ++ other ∷ []) xs ys ordered)

-- ---- bytes that are taken before replies are to be sent

module _ {H : Type 0} (answers : H → Line → List Reply → Next → H → Type 0)
    (refuses : H → LineError → List Reply → Next → H → Type 0) (endings : Endings) (size : ℕ)
    (now : Supply) where
  -- a step after which replies are to be sent takes a byte
  turn_takes_some : (a b : Place H) (step : Step) → a.awaited ≢ Sending → b.awaited ≡ Sending
      → IsRequested a.awaited → IsTurn answers refuses endings size now a step b
      → 0 < length (step_bytes step)
  turn_takes_some a b step apart is request turn =
      go a.awaited step apart request (turn_bytes answers refuses endings size now a b step turn).0
      turn
    where
      go : (awaited : Awaited) (step : Step) → awaited ≢ Sending → IsRequested awaited
          → a.text ≡ step_bytes step ++ b.text
          → IsTurnAt answers refuses endings size now awaited a step b
          → 0 < length (step_bytes step)
      go (Input asked) (took input said) apart request text t = omega (
        arith,
        some_given answers refuses endings size now asked t.1 t.2 b.text input t.5 request t.6 t.7,
        ap length text,
        ap length t.9,
        length-append (step_bytes (took input said)) b.text,
        length-append t.2 b.text,
      )
      go (Input asked) (rejected error said) apart request text t = grind arith
      go (Input asked) (skipped bytes) apart request text t = grind arith
      go (LineEnd then) (skipped bytes) apart request text t = grind arith
      go Sending step apart request text t = absurd (apart refl)
      go _ _ apart request text t = absurd t

  pub sends_take : (a b : Place H) (steps : List Step) → a.awaited ≢ Sending
      → b.awaited ≡ Sending → IsRequested a.awaited
      → Turns answers refuses endings size now a steps b → 0 < length (bytes_of steps)
  sends_take a b [] apart is request same = grind arith
  sends_take a b (step ∷ steps) apart is request (mid, turn, turns) =
      grind (
        arith,
        turn_takes_some a mid step,
        sends_take mid b steps,
        requests,
        length-append (step_bytes step) (bytes_of steps),
      )

  -- while it is awaited that the replies are sent, the handler is given nothing before they are
  pub sends_first : (P : List Step → Type 0) (a b : Place H) (past steps : List Step)
      → a.awaited ≡ Sending → Turns answers refuses endings size now a steps b
      → AtEachSending P past steps → (given_in steps ≡ []) ⊎ P past
  sends_first P a b past [] is turns ordered = inl refl
  sends_first P a b past (sent_out ∷ steps) is turns ordered = inr ordered.0
  sends_first P a b past (skipped bytes ∷ steps) is (mid, turn, turns) ordered =
      let t : (bytes ≡ []) × (mid ≡ record a { awaited = Nothing stop.Writer }) =
      rw is at turn in
      inl (ap given_in (over_ends answers refuses endings size now mid b steps stop.Writer
      (ap (λ (p : Place H). p.awaited) t.1) turns).0)
  sends_first P a b past (took input said ∷ steps) is (mid, turn, turns) ordered =
      absurd (rw is at turn)
  sends_first P a b past (rejected error said ∷ steps) is (mid, turn, turns) ordered =
      absurd (rw is at turn)

-- ---- handlers that do not ask for that

-- it is awaited that replies are sent, or will be after the rest of a line
abbrev pub SendsLater : Awaited → Type 0
SendsLater awaited = (awaited ≡ Sending) ⊎ (awaited ≡ LineEnd next.LineOnceSent)

module _ {H : Type 0} (answers : H → Line → List Reply → Next → H → Type 0)
    (refuses : H → LineError → List Reply → Next → H → Type 0)
    (answers_none : (old : H) (input : Line) (replies : List Reply) (asked : Next) (new : H)
    → answers old input replies asked new → asked ≢ next.LineOnceSent)
    (refuses_none : (old : H) (error : LineError) (replies : List Reply) (asked : Next) (new : H)
    → refuses old error replies asked new → asked ≢ next.LineOnceSent) (endings : Endings)
    (size : ℕ) (now : Supply) where
  turn_sends_none : (a b : Place H) (step : Step) → ¬ (SendsLater a.awaited)
      → IsTurn answers refuses endings size now a step b → ¬ (SendsLater b.awaited)
  turn_sends_none a b step none turn = go a.awaited step none turn
    where
      go : (awaited : Awaited) (step : Step) → ¬ (SendsLater awaited)
          → IsTurnAt answers refuses endings size now awaited a step b → ¬ (SendsLater b.awaited)
      go (Input asked) (took input said) none t later = grind arith
      go (Input asked) (rejected error said) none t later = grind arith
      go (Input asked) (skipped bytes) none t later = grind arith
      go (LineEnd then) (skipped bytes) none t later = grind arith
      go Sending step none t later = none (inl refl)
      go _ _ none t later = absurd t

  -- in a conversation with such a handler it is never awaited that replies are sent
  pub never_sends : (a b : Place H) (steps : List Step) → ¬ (SendsLater a.awaited)
      → Turns answers refuses endings size now a steps b → ¬ (SendsLater b.awaited)
  never_sends a b [] none same = rw same none
  never_sends a b (step ∷ steps) none (mid, turn, turns) =
      never_sends mid b steps (turn_sends_none a mid step none turn) turns
