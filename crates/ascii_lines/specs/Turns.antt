-- The steps of a conversation: what a handler makes of bytes, one after another, whatever they come
-- from.
use Rattle.std.specs.Prelude.{◌≡◌, ◌≢◌, ◌⊎◌, ℕ, ◌+◌, ◌*◌, ◌-◌, ◌^◌, ◌<◌, ◌≤◌, List, [], ◌∷◌, ◌++◌}
use Rattle.std.specs.Prelude.{Bool, None, Some, drop, false, length, take, true, ⊤}
use Rattle.std.specs.declared.option.Option.{Option}
use Rattle.ascii.specs.Endings.{FreeUpTo, IsFirstStop, any_text}
use Rattle.ascii.specs.Lines.{Line}
use Rattle.ascii.specs.declared.iter.spans.Endings.{Endings}
use Rattle.ascii_lines.specs.Exchanges.{SendsNothing, said_in}
use Rattle.ascii_lines.specs.LineBuffer.{WindowState}
use Rattle.ascii_lines.specs.Replies.{IsInputOf, IsRequest, Reply, Says, Saying, Step}
use Rattle.ascii_lines.specs.Replies.{at_end_before, rejected, sent_out, skipped, took}
use Rattle.ascii_lines.specs.Skipping.{HasNoEnd, IsCleanCut, IsFinal, WhyNotSkipped}
use Rattle.ascii_lines.specs.Wanted.{EndsAt, MayBeLast, MayHave, MustRead, Rejects}
use Rattle.ascii_lines.specs.declared.conversation.Awaited.{Awaited}
use Rattle.ascii_lines.specs.declared.conversation.Awaited.TheVariants.{Input, LineEnd, Nothing}
use Rattle.ascii_lines.specs.declared.conversation.Awaited.TheVariants.{Sending}
use Rattle.ascii_lines.specs.declared.conversation.Supply.{Supply}
use Rattle.ascii_lines.specs.declared.conversation.Supply.TheVariants as supply
use Rattle.ascii_lines.specs.declared.line_reader.LineError.{LineError}
use Rattle.ascii_lines.specs.declared.line_reader.LineError.TheVariants.{Incomplete, Read}
use Rattle.ascii_lines.specs.declared.serving.Next.{Next}
use Rattle.ascii_lines.specs.declared.serving.Next.TheVariants as next
use Rattle.ascii_lines.specs.declared.serving.Stop.{Stop}
use Rattle.ascii_lines.specs.declared.serving.Stop.TheVariants as stop
use Rattle.ascii_lines.specs.declared.wanted.Content.TheVariants.{Any, Text}
use Rattle.ascii_lines.specs.declared.wanted.Wanted.{Wanted}
use Rattle.ascii_lines.specs.declared.wanted.Wanted.TheVariants as wanted

-- ---- places

-- where a conversation is: what is awaited, the state of the handler, the position in the input,
-- and the bytes from there on
pub record Place (H : Type 0) : Type 0 where
  pub awaited : Awaited
  pub handler : H
  pub start : ℕ
  pub text : List ℕ

-- a place with more bytes after those that it has
abbrev pub with_more : {H : Type 0} → Place H → List ℕ → Place H
with_more place more = record place { text = place.text ++ more }

-- the conversation is over
abbrev pub IsOver : Awaited → Type 0
IsOver awaited = (why : Stop) × (awaited ≡ Nothing why)

-- what is awaited after a handler has asked for this
abbrev pub awaited_by : Next → Awaited
awaited_by next.Close = Nothing stop.Closed
awaited_by next.LineOnceSent = Sending
awaited_by asked = Input asked

-- what is awaited after the replies were sent: a line, if their sending was awaited
abbrev pub after_sent : Awaited → Awaited
after_sent Sending = Input next.Line
after_sent awaited = awaited

-- ---- one step

-- what is asked for, as what is looked for in bytes
abbrev pub Wants : Endings → Next → Wanted → Type 0
Wants endings next.Line what = what ≡ wanted.Line endings Text
Wants endings (next.Part n) what = what ≡ wanted.Part n Text
Wants endings (next.Bytes n) what = what ≡ wanted.Part n Any
Wants endings next.LineOnceSent what = ⊥
Wants endings next.Close what = ⊥

-- the input has ended
abbrev pub is_ended : Supply → Bool
is_ended supply.Ended = true
is_ended other = false

-- the bytes, which start at the position `start` of the input, have this error in place of what is
-- wanted: some of them show it, or all of them and the end of the input. `Read`: more bytes were to
-- be read, and could not be. If there are none at the end of the input, it is `Incomplete` of 0,
-- also if the part is longer than the buffer
abbrev pub Faults : Supply → Wanted → ℕ → ℕ → List ℕ → LineError → Type 0
Faults now what start size text error = (seen others : List ℕ) × (text ≡ seen ++ others)
    × Rejects what start size seen (at_end_before others (is_ended now)) error
    × (error ≡ Read → (now ≡ supply.Failed) × (others ≡ []))
    × (now ≡ supply.Ended → text ≡ [] → error ≡ Incomplete 0)

-- what is awaited after an error in place of what was asked for, where the handler asks for `then`:
-- the end of the line at fault; or nothing
abbrev pub GoesTo : Next → LineError → Next → Awaited → Type 0
GoesTo asked error then after =
    ((after ≡ LineEnd then) × (asked ≡ next.Line) × ¬ (IsFinal error) × (then ≢ next.Close))
    ⊎ ((after ≡ Nothing (stop.Reader error))
    × (asked ≡ next.Line → IsFinal error ⊎ (then ≡ next.Close)))

-- `bytes` of a line that was rejected are read over, from the position `start` of the input on, and
-- `left` are those after them. What is awaited then: `then`, after the end of the line; the end,
-- which is not among the bytes; or nothing, since the input has ended, or why the line is not read
-- over
abbrev pub SkipsTo : Supply → Endings → Next → ℕ → List ℕ → List ℕ → Awaited → Type 0
SkipsTo now endings then start bytes left after =
    ((after ≡ awaited_by then) × IsFirstStop endings bytes (length bytes))
    ⊎ ((after ≡ LineEnd then) × FreeUpTo endings bytes (length bytes)
    × IsCleanCut endings bytes left)
    ⊎ ((after ≡ Nothing stop.EndOfInput) × (now ≡ supply.Ended)
    × FreeUpTo endings bytes (length bytes) × (left ≡ []))
    ⊎ ((error : LineError) × (after ≡ Nothing (stop.Reader error))
    × (error ≡ Read → now ≡ supply.Failed)
    × WhyNotSkipped endings (2 ^ 64 - 1) start bytes left error)

-- a conversation in which `asked` was asked for stops without a word to the handler: the replies
-- cannot be written; or there are no more lines
abbrev pub Stops : Supply → Next → List ℕ → Stop → Type 0
Stops now asked text stop.Writer = ⊤
Stops now asked text stop.EndOfInput =
    (asked ≡ next.Line) × (now ≡ supply.Ended) × (text ≡ [])
Stops now asked text other = ⊥

module _ {H : Type 0} (answers : H → Line → List Reply → Next → H → Type 0)
    (refuses : H → LineError → List Reply → Next → H → Type 0) (endings : Endings) (size : ℕ)
    (now : Supply) where
  -- one step of a conversation in which `awaited` is awaited, with a buffer of `size` bytes.
  -- `took`: the handler is given the line or part that it asked for. `rejected`: it is told of an
  -- error in its place. `skipped`: bytes of a line that was rejected are read over; or none, and
  -- the conversation stops. `sent_out`: the replies are sent, and then a line is awaited
  abbrev pub IsTurnAt : Awaited → Place H → Step → Place H → Type 0
  IsTurnAt (Input asked) old (took input said) new = (then : Next) × (what : Wanted)
      × (bytes : List ℕ) × (new.awaited ≡ awaited_by then) × IsRequest then
      × Wants endings asked what × IsInputOf what bytes input
      × (EndsAt what bytes (length bytes)
      ⊎ ((now ≡ supply.Ended) × (new.text ≡ []) × MayBeLast what true))
      × answers old.handler input said then new.handler
      × (old.text ≡ bytes ++ new.text) × (new.start ≡ old.start + length bytes)
      × MayHave what bytes
  IsTurnAt (Input asked) old (rejected error said) new = (then : Next) × (what : Wanted)
      × GoesTo asked error then new.awaited × IsRequest then × Wants endings asked what
      × refuses old.handler error said then new.handler
      × Faults now what old.start size old.text error
      × (new.text ≡ old.text) × (new.start ≡ old.start)
  IsTurnAt (Input asked) old (skipped bytes) new = (why : Stop) × (bytes ≡ [])
      × Stops now asked old.text why × (new ≡ record old { awaited = Nothing why })
  IsTurnAt (LineEnd then) old (skipped bytes) new = (new.handler ≡ old.handler)
      × (old.text ≡ bytes ++ new.text) × (new.start ≡ old.start + length bytes)
      × (SkipsTo now (any_text endings) then old.start bytes new.text new.awaited
      ⊎ ((new.awaited ≡ Nothing stop.Writer) × (bytes ≡ [])))
  IsTurnAt Sending old sent_out new = new ≡ record old { awaited = Input next.Line }
  IsTurnAt Sending old (skipped bytes) new =
      (bytes ≡ []) × (new ≡ record old { awaited = Nothing stop.Writer })
  IsTurnAt awaited old step new = ⊥

  -- steps, one after another
  abbrev pub Turns : Place H → List Step → Place H → Type 0
  Turns old [] new = new ≡ old
  Turns old (step ∷ steps) new = (mid : Place H)
      × IsTurnAt old.awaited old step mid × Turns mid steps new

-- ---- when no step can be taken

-- what is awaited is not among the bytes, which start at the position `start` of the input, nor is
-- a fault of it: they fit in the buffer of `size` bytes, and no line ends in them, or they are
-- fewer than the part. Of a line that was rejected there is one byte at most
abbrev pub Lacks : Endings → ℕ → Awaited → ℕ → List ℕ → Type 0
Lacks endings size (Input next.Line) start text =
    MustRead (wanted.Line endings Text) start size text
Lacks endings size (Input (next.Part n)) start text = MustRead (wanted.Part n Text) start size text
Lacks endings size (Input (next.Bytes n)) start text = MustRead (wanted.Part n Any) start size text
Lacks endings size (LineEnd then) start text =
    FreeUpTo (any_text endings) text (length text) × (length text ≤ 1)
    × (start + length text < 2 ^ 64)
Lacks endings size awaited start text = ⊥

-- a handler has asked for what is awaited: a line, or a part of one byte at least
abbrev pub IsRequested : Awaited → Type 0
IsRequested (Input next.Close) = ⊥
IsRequested (Input next.LineOnceSent) = ⊥
IsRequested (Input asked) = IsRequest asked
IsRequested (LineEnd then) = IsRequest then
IsRequested Sending = ⊤
IsRequested (Nothing why) = ⊤

-- no step can be taken before more bytes come: what is awaited is not among these; or before the
-- replies are sent, which is awaited; or the conversation is over, and has used all of them if it
-- ended with the input
abbrev pub Rests : Endings → ℕ → Awaited → ℕ → List ℕ → Type 0
Rests endings size awaited start text = IsRequested awaited
    × (Lacks endings size awaited start text ⊎ (awaited ≡ Sending)
    ⊎ (IsOver awaited × (awaited ≡ Nothing stop.EndOfInput → text ≡ [])))

module _ {H K : Type 0} (answers : H → Line → List Reply → Next → H → Type 0)
    (refuses : H → LineError → List Reply → Next → H → Type 0) (endings : Endings) (size : ℕ)
    (now : Supply) where
  -- steps were taken, and their replies given in order; and none is left, unless the replies are to
  -- be sent first. If the bytes are all that will come, the conversation is over; and so it is if the
  -- replies could not be written, which is the reason only if it was not over before
  pub record Converses (old : Place H) (out : Saying K) (new : Place H) (said : Saying K) : Type 0
    where
      pub steps : List Step
      pub turns : Turns answers refuses endings size now old steps new
      pub says : Says out (said_in steps) said
      pub unsent : SendsNothing steps
      pub rests : Rests endings size new.awaited new.start new.text
      pub closed : (now ≡ supply.Open) ⊎ IsOver new.awaited ⊎ (new.awaited ≡ Sending)
      pub written : IsOver new.awaited ⊎ (said.state.buffer.is_broken ≡ false)
      pub ended : new.awaited ≡ Nothing stop.EndOfInput
          → (old.awaited ≡ Nothing stop.EndOfInput) ⊎ (now ≡ supply.Ended)
      pub failed : new.awaited ≡ Nothing stop.Writer
          → (old.awaited ≡ Nothing stop.Writer) ⊎ (said.state.buffer.is_broken ≡ true)

-- ---- a conversation

-- what contracts see of a conversation: the size of its buffer, in bytes; which endings end its
-- lines; what is awaited; the position in the input; the bytes from there on that it holds; and
-- whether a read of a device for it has returned no bytes
pub record TalkState : Type 0 where
  pub size : ℕ
  pub endings : Endings
  pub awaited : Awaited
  pub start : ℕ
  pub held : List ℕ
  pub is_at_end : Bool

-- where a conversation is with a handler, if these bytes come after those that it holds
abbrev pub place_with : {H : Type 0} → TalkState → H → List ℕ → Place H
place_with talk handler more = record {
  awaited = talk.awaited;
  handler = handler;
  start = talk.start;
  text = talk.held ++ more;
}

-- where a conversation is with a handler
abbrev pub place_of : {H : Type 0} → TalkState → H → Place H
place_of talk handler = record {
  awaited = talk.awaited;
  handler = handler;
  start = talk.start;
  text = talk.held;
}

-- where a conversation is with a handler once the replies were sent
abbrev pub place_sent : {H : Type 0} → TalkState → H → Place H
place_sent talk handler = record {
  awaited = after_sent talk.awaited;
  handler = handler;
  start = talk.start;
  text = talk.held;
}

-- a new conversation, in which a line is awaited
abbrev pub fresh_talk : ℕ → Endings → TalkState
fresh_talk size endings = record {
  size = size;
  endings = endings;
  awaited = Input next.Line;
  start = 0;
  held = [];
  is_at_end = false;
}

-- whether more bytes can come, by whether a read has returned none
abbrev pub supply_at : Bool → Supply
supply_at true = supply.Ended
supply_at false = supply.Open

-- only where a conversation is has changed: not the size of its buffer, its endings, or whether a
-- read of a device for it has returned no bytes
pub record OnlyMoves (old new : TalkState) : Type 0 where
  pub size : new.size ≡ old.size
  pub endings : new.endings ≡ old.endings
  pub at_end : new.is_at_end ≡ old.is_at_end

-- why a conversation is over, if it is
abbrev pub stop_of : Awaited → Option Stop
stop_of (Nothing why) = Some why
stop_of other = None

-- ---- cited by private functions only

-- `bytes` are all of what is wanted, or a line without an ending at the end of the input: `left`
-- are those after them
abbrev pub Completes : Supply → Wanted → List ℕ → List ℕ → Type 0
Completes now what bytes left = EndsAt what bytes (length bytes)
    ⊎ ((now ≡ supply.Ended) × (left ≡ []) × MayBeLast what true)

-- a place, of its parts
abbrev pub place_at : {H : Type 0} → Awaited → H → ℕ → List ℕ → Place H
place_at awaited handler start text =
    record { awaited = awaited; handler = handler; start = start; text = text }

-- a measure of what is left to do: each step takes bytes, goes from a line to its end, or stops
abbrev pub left_of : Awaited → List ℕ → ℕ
left_of (Input asked) text = 2 * length text + 2
left_of (LineEnd then) text = 2 * length text + 1
left_of Sending text = 0
left_of (Nothing why) text = 0

-- what a step leaves: something that was asked for; and it has not stopped since the replies could
-- not be written, nor at the end of the input before all bytes were used
abbrev pub IsSound : Supply → Awaited → List ℕ → Type 0
IsSound now (Nothing stop.EndOfInput) text = (now ≡ supply.Ended) × (text ≡ [])
IsSound now (Nothing stop.Writer) text = ⊥
IsSound now awaited text = IsRequested awaited

module _ {H : Type 0} (answers : H → Line → List Reply → Next → H → Type 0)
    (refuses : H → LineError → List Reply → Next → H → Type 0) (endings : Endings) (size : ℕ)
    (now : Supply) where
  -- one step of a conversation
  abbrev pub IsTurn : Place H → Step → Place H → Type 0
  IsTurn old step new = IsTurnAt answers refuses endings size now old.awaited old step new

module _ {H K : Type 0} (answers : H → Line → List Reply → Next → H → Type 0)
    (refuses : H → LineError → List Reply → Next → H → Type 0) (endings : Endings) (size : ℕ)
    (now : Supply) where
  -- the outcome of one step: it was taken; or there is none before the replies are sent, or before
  -- more bytes come
  abbrev pub TurnOutcome : Place H → Saying K → Bool → Place H → Saying K → Type 0
  TurnOutcome old out true new said = (step : Step)
      × IsTurn answers refuses endings size now old step new × Says out (said_in (step ∷ [])) said
      × SendsNothing (step ∷ []) × IsSound now new.awaited new.text
      × (left_of new.awaited new.text < left_of old.awaited old.text)
  TurnOutcome old out false new said = (new ≡ old) × (said ≡ out) × ((old.awaited ≡ Sending)
      ⊎ ((now ≡ supply.Open) × Lacks endings size old.awaited old.start old.text))

-- the first `searched` bytes were searched for what is awaited, or none were, or no bytes are awaited
abbrev pub IsSearchedFor : Endings → ℕ → Awaited → ℕ → List ℕ → ℕ → Type 0
IsSearchedFor endings size awaited start text searched = (searched ≡ 0) ⊎ (awaited ≡ Sending)
    ⊎ ((searched ≤ length text) × Lacks endings size awaited start (take searched text))

-- as many of `bytes` as there was room for, which are `n`, are held after those that were
pub record PutsBehind (old new : WindowState) (bytes : List ℕ) (n : ℕ) : Type 0 where
  pub within : n ≤ length bytes
  pub held : new.held ≡ old.held ++ take n bytes
  pub most : (n ≡ length bytes) ⊎ (length new.held ≡ old.room)
  pub roomy : old.size < old.room
  pub two : 1 < old.room
  pub size : new.size ≡ old.size
  pub at_end : new.is_at_end ≡ old.is_at_end

-- how many bytes of a line that was rejected are read over, and what is awaited then; or none
-- before more bytes come
abbrev pub SkipsIn : Supply → Endings → Next → ℕ → List ℕ → Option (ℕ × Awaited) → Type 0
SkipsIn now endings then start text None = (now ≡ supply.Open) × HasNoEnd endings text
    × (length text ≤ 1) × (start + length text < 2 ^ 64)
SkipsIn now endings then start text (Some found) = (found.0 ≤ length text)
    × (start + found.0 < 2 ^ 64) × (found.1 ≡ LineEnd then → 0 < found.0)
    × SkipsTo now endings then start (take found.0 text) (drop found.0 text) found.1

-- the outcome of reading over bytes of a line that was rejected
abbrev pub SkipTurn : Supply → Endings → Next → ℕ → List ℕ → Bool → Awaited → ℕ → List ℕ → Type 0
SkipTurn now endings then start text true after at left = (bytes : List ℕ)
    × (text ≡ bytes ++ left) × (at ≡ start + length bytes)
    × (after ≡ LineEnd then → 0 < length bytes) × SkipsTo now endings then start bytes left after
SkipTurn now endings then start text false after at left = (left ≡ text) × (at ≡ start)
    × (after ≡ LineEnd then) × (now ≡ supply.Open) × HasNoEnd endings text × (length text ≤ 1)
    × (start + length text < 2 ^ 64)
