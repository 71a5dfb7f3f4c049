-- What the steps of a conversation say of its input.
use Rattle.std.proofs.Common.{◌≡◌, ◌+◌, ◌<◌, ℕ, List, [], ◌∷◌, ◌++◌, ap, arith, length}
use Rattle.std.proofs.Common.{length-append, refl}
use Rattle.std.proofs.lemmas.List.{nil_from_length}
use Rattle.ascii.specs.Lines.{Line}
use Rattle.ascii.specs.declared.iter.spans.Ending.TheVariants.{Absent}
use Rattle.ascii.specs.declared.iter.spans.Endings.{Endings}
use Rattle.ascii_lines.specs.Exchanges.{TakesNothing, bytes_of, step_bytes}
use Rattle.ascii_lines.specs.Replies.{IsInputOf, Reply, Step, rejected, took}
use Rattle.ascii_lines.specs.Steps.{Explains}
use Rattle.ascii_lines.specs.Turns.{Completes, IsRequested, IsTurn, IsTurnAt, Place, Turns, Wants}
use Rattle.ascii_lines.specs.declared.conversation.Awaited.{Awaited}
use Rattle.ascii_lines.specs.declared.conversation.Awaited.TheVariants.{Input}
use Rattle.ascii_lines.specs.declared.conversation.Supply.{Supply}
use Rattle.ascii_lines.specs.declared.conversation.Supply.TheVariants as supply
use Rattle.ascii_lines.specs.declared.line_reader.LineError.{LineError}
use Rattle.ascii_lines.specs.declared.serving.Next.{Next}
use Rattle.ascii_lines.specs.declared.serving.Next.TheVariants as next
use Rattle.ascii_lines.specs.declared.wanted.Wanted.{Wanted}
use Rattle.ascii_lines.specs.declared.wanted.Wanted.TheVariants as wanted
use Rattle.ascii_lines.proofs.LineReaderLemmas.{line_has_bytes}
use Rattle.ascii_lines.proofs.TurnsLemmas.{Turns-bytes, turn_bytes}

module _ {H : Type 0} (answers : H → Line → List Reply → Next → H → Type 0)
    (refuses : H → LineError → List Reply → Next → H → Type 0) (endings : Endings) (size : ℕ)
    (now : Supply) where
  -- a step among others
  pub Turns-split : (a c : Place H) (before : List Step) (step : Step) (after : List Step)
      → Turns answers refuses endings size now a (before ++ step ∷ after) c
      → (p q : Place H) × Turns answers refuses endings size now a before p
      × IsTurn answers refuses endings size now p step q
      × Turns answers refuses endings size now q after c
  Turns-split a c [] step after (mid, turn, turns) = (a, mid, refl, turn, turns)
  Turns-split a c (x ∷ before) step after (mid, turn, turns) =
      let parts = Turns-split mid c before step after turns in
      (parts.0, parts.1, (mid, turn, parts.2), parts.3, parts.4)

  -- an error is one of the bytes that are left before it, at the position after those of the steps
  pub faults_at : (a c : Place H) (before : List Step) (error : LineError) (said : List Reply)
      (after : List Step)
      → Turns answers refuses endings size now a (before ++ rejected error said ∷ after) c
      → Explains endings size now (a.start + length (bytes_of before)) (bytes_of after ++ c.text)
      error
  faults_at a c before error said after turns = grind (arith, Turns-split, Turns-bytes)

  -- ---- after the last byte

  -- what is awaited after a step was asked for
  pub requests : (a b : Place H) (step : Step) → IsTurn answers refuses endings size now a step b
      → IsRequested a.awaited → IsRequested b.awaited
  requests a b step turn = grind arith

  -- what is given has a byte
  pub some_given : (asked : Next) (what : Wanted) (bytes left : List ℕ) (input : Line)
      → Wants endings asked what → IsRequested (Input asked) → IsInputOf what bytes input
      → Completes now what bytes left → 0 < length bytes
  some_given asked (wanted.Part n content) bytes left input wants request is completes = grind arith
  some_given asked (wanted.Until code) bytes left input wants request is completes = grind arith
  some_given asked _ bytes left input wants request is completes =
      line_has_bytes _ bytes input is.0

  takes_nothing : (a c : Place H) (steps : List Step) → now ≡ supply.Ended → a.text ≡ []
      → IsRequested a.awaited → Turns answers refuses endings size now a steps c
      → TakesNothing steps × (c.text ≡ [])
  takes_nothing a c [] ended none request same = (tt, rw same none)
  takes_nothing a c (step ∷ steps) ended none request (mid, turn, turns) =
      let bytes = (turn_bytes answers refuses endings size now a mid step turn).0 in
      let long = length-append (step_bytes step) mid.text in
      let taken : step_bytes step ≡ [] = grind (arith, nil_from_length) in
      let left : mid.text ≡ [] = grind (arith, nil_from_length) in
      let then = takes_nothing mid c steps ended left (requests a mid step turn request) turns in
      (go a.awaited step request turn taken then.0, then.1)
    where
      go : (awaited : Awaited) (step : Step) → IsRequested awaited
          → IsTurnAt answers refuses endings size now awaited a step mid
          → step_bytes step ≡ [] → TakesNothing steps → TakesNothing (step ∷ steps)
      go (Input asked) (took input said) request t taken then = absurd (omega (
        arith,
        some_given asked t.1 t.2 mid.text input t.5 request t.6 t.7,
        ap length none,
        ap length t.9,
        length-append t.2 mid.text,
      ))
      go awaited step request t taken then = grind arith

  -- a line without an ending is the last: no byte is taken after it, and none is left
  pub unended_last : (a b c : Place H) (input : Line) (said : List Reply) (steps : List Step)
      → a.awaited ≡ Input next.Line → IsTurn answers refuses endings size now a (took input said) b
      → input.ending ≡ Absent → Turns answers refuses endings size now b steps c
      → TakesNothing steps × (c.text ≡ [])
  unended_last a b c input said steps line turn absent turns =
      grind (arith, takes_nothing, requests)
