-- A conversation as its handler sees it.
use Rattle.std.proofs.Common.{◌≡◌, ◌∙◌, ℕ, List, [], ◌∷◌, ◌++◌, Option, Some, append-nil, ap, arith}
use Rattle.std.proofs.Common.{inl, inr, length, length-append, true, refl, subst, sym}
use Rattle.std.specs.Io.KnownBytes.{Consumes, IsAtEnd}
use Rattle.std.specs.List.{flat_map}
use Rattle.std.specs.Prelude.{IfSome}
use Rattle.ascii.proofs.LinesLemmas.{LinesEndedBy-cons, LinesEndedBy-nil}
use Rattle.ascii.specs.Lines.{Line, LinesEndedBy, line_text}
use Rattle.ascii.specs.declared.iter.spans.Ending.{Ending}
use Rattle.ascii.specs.declared.iter.spans.Endings.{Endings}
use Rattle.ascii_devices.specs.Devices.{received_of}
use Rattle.ascii_lines.specs.Exchanges.{IsReplier, Runs, inputs_of, said_in}
use Rattle.ascii_lines.specs.Replies.{Reply, Step, rejected, reply_bytes, reply_text, sent_out}
use Rattle.ascii_lines.specs.Replies.{skipped, took}
use Rattle.ascii_lines.specs.Serve.{ChannelState, RepliesToAll, Serves, Talk, first_place}
use Rattle.ascii_lines.specs.Turns.{IsTurnAt, Place, Turns, awaited_by, is_ended, place_of}
use Rattle.ascii_lines.specs.declared.conversation.Awaited.TheVariants.{Input, Nothing}
use Rattle.ascii_lines.specs.declared.conversation.Supply.{Supply}
use Rattle.ascii_lines.specs.declared.line_reader.LineError.{LineError}
use Rattle.ascii_lines.specs.declared.serving.Next.{Next}
use Rattle.ascii_lines.specs.declared.serving.Next.TheVariants as next
use Rattle.ascii_lines.specs.declared.serving.Stop.{Stop}
use Rattle.ascii_lines.specs.declared.serving.Stop.TheVariants as stop
use Rattle.ascii.proofs.LinesByLemmas.{MayFollow-ended}
use Rattle.ascii_lines.proofs.LineReaderLemmas.{line_bytes}
use Rattle.ascii_lines.proofs.TurnsLemmas.{over_ends, over_by}

module _ {H : Type 0} (answers : H → Line → List Reply → Next → H → Type 0)
    (refuses : H → LineError → List Reply → Next → H → Type 0) (endings : Endings) (size : ℕ)
    (now : Supply) where
  -- steps lead a handler from answer to answer
  pub turns_run : (a b : Place H) (steps : List Step)
      → Turns answers refuses endings size now a steps b
      → Runs answers refuses a.handler steps b.handler
  turns_run a b [] same = ap (λ (p : Place H). p.handler) same
  turns_run a b (step ∷ steps) (mid, turn, turns) = grind (arith, turns_run mid b steps turns)

module _ {H : Type 0} (answers : H → Line → List Reply → Next → H → Type 0)
    (refuses : H → LineError → List Reply → Next → H → Type 0) where
  -- so does the conversation of a server
  pub talk_runs : {old new : ChannelState} {handler last : H}
      (talk : Talk answers refuses old handler new last)
      → Runs answers refuses handler talk.steps last
  talk_runs {old} {new} {handler} {last} talk = grind (arith, turns_run)

-- ---- handlers that reply to lines

-- the bytes that a source gave up to its end are all that it had
all_given : (old left : Option (List ℕ)) (given : List ℕ) (P : List ℕ → Type 0)
    → Consumes old left given → IsAtEnd left → P given → IfSome old P
all_given old left given P gave ends holds = grind (arith, append-nil)

-- there are no lines in no bytes
no_lines : (endings : Endings) (lines : List Line) → LinesEndedBy endings [] lines → lines ≡ []
no_lines endings [] are = refl
no_lines endings (line ∷ lines) are = absurd (omega (
  arith,
  ap length are.joined,
  length-append (line_text line) (flat_map line_text lines),
  line_bytes line.body line.ending
      (MayFollow-ended endings line.ending line.body (are.endings 0 line (omega arith))),
))

module _ {H : Type 0} (answers : H → Line → List Reply → Next → H → Type 0)
    (refuses : H → LineError → List Reply → Next → H → Type 0) (reply : Line → Reply)
    (replier : IsReplier answers refuses reply) (endings : Endings) (size : ℕ) (now : Supply) where
  -- steps up to the end of the input take its lines, and give the replies to them
  record TakesLines (text : List ℕ) (steps : List Step) : Type 0 where
    pub are : LinesEndedBy endings text (inputs_of steps)
    pub says : (ending : Ending) → reply_bytes ending (said_in steps)
        ≡ flat_map (λ line. reply_text ending (reply line)) (inputs_of steps)

  takes_lines : (a b : Place H) (steps : List Step) → a.awaited ≡ Input next.Line
      → b.awaited ≡ Nothing stop.EndOfInput → Turns answers refuses endings size now a steps b
      → TakesLines a.text steps
  takes_lines a b [] line ends same = grind arith
  takes_lines a b (step ∷ steps) line ends (mid, turn, turns) = go step
      (λ is. takes_lines mid b steps is ends turns)
      (subst (λ w. IsTurnAt answers refuses endings size now w a step mid) line turn)
    where
      over : (why : Stop) → mid.awaited ≡ Nothing why → (why ≡ stop.EndOfInput) × (steps ≡ [])
      over why is =
          let last = over_ends answers refuses endings size now mid b steps why is turns in
          (over_by why stop.EndOfInput is (rw last.1 at ends), last.0)

      go : (step : Step) → (mid.awaited ≡ Input next.Line → TakesLines mid.text steps)
          → IsTurnAt answers refuses endings size now (Input next.Line) a step mid
          → TakesLines a.text (step ∷ steps)
      go (took input said) then t =
          let by = replier.0 a.handler input said t.0 mid.handler t.8 in
          let others = then (t.3 ∙ ap awaited_by by.1) in
          let is = rw t.5 at t.6 in
          let completes = rw t.5 at t.7 in
          record {
            are = rw (t.9, ← is.1)
                (LinesEndedBy-cons endings input mid.text (inputs_of steps)
                (is.0.bodies 0 input (omega arith)) (is.0.endings 0 input (omega arith))
                (λ none. elim completes [
                  | inl whole ↦ absurd (is.2 whole none)
                  | inr last ↦ no_lines endings (inputs_of steps) (rw last.1 at others.are)
                ]) others.are);
            says = λ ending. rw (by.0, others.says ending);
          }
      go (rejected error said) then t = grind (arith, over)
      go (skipped bytes) then t = grind (arith, over, LinesEndedBy-nil)
      go sent_out then t = absurd t

module _ {H : Type 0} (answers : H → Line → List Reply → Next → H → Type 0)
    (refuses : H → LineError → List Reply → Next → H → Type 0) (reply : Line → Reply)
    (replier : IsReplier answers refuses reply) where
  -- after a conversation that ended with the input, all lines were replied to
  pub replied_to_all : (old new : ChannelState) (handler last : H) (why : Stop)
      → Serves answers refuses old handler why new last → why ≡ stop.EndOfInput
      → RepliesToAll reply old new
  replied_to_all old new handler last why served is =
      let serves = rw is at served in
      let talk = serves.talk in
      let used = serves.used refl in
      let over : new.talk.awaited ≡ Nothing stop.EndOfInput =
      elim serves.stops [ inl writer ↦ cc | inr over ↦ over ] in
      let all = takes_lines answers refuses reply replier old.talk.endings old.talk.size talk.now
      (first_place old handler (received_of talk.events)) (place_of new.talk last) talk.steps refl
      over talk.turns in
      let seen : new.talk.is_at_end ≡ true = sym talk.ended ∙ ap is_ended used.0 in
      let reads : new.output.aside.failures ≡ old.output.aside.failures = grind arith in
      record {
        lines = inputs_of talk.steps;
        input = all_given old.output.aside.bytes talk.gave.rest (received_of talk.events)
            (λ rest. LinesEndedBy old.talk.endings (old.talk.held ++ rest) (inputs_of talk.steps))
            talk.gave.gave (subst IsAtEnd (talk.gave.left reads) (serves.end seen)) all.are;
        output = rw (serves.wrote.0, all.says old.ending) at talk.took;
      }

-- the same of a channel over memory
pub replied_in_memory : (reply : Line → Reply) (old new : ChannelState) (text written : List ℕ)
    → RepliesToAll reply old new → old.talk.held ≡ [] → old.output.buffer.bytes ≡ []
    → old.output.aside.bytes ≡ Some text → old.output.taken ≡ Some []
    → new.output.taken ≡ Some written
    → (lines : List Line) × LinesEndedBy old.talk.endings text lines
    × (written ≡ flat_map (λ line. reply_text old.ending (reply line)) lines)
replied_in_memory reply old new text written all none empty rest before after = grind arith
