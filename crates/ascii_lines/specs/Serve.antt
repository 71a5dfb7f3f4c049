-- What a server reads, what its handler replies, when, and why it stops.
use Rattle.std.specs.Prelude.{◌≡◌, ◌≢◌, ◌⊎◌, ℕ, List, [], ◌∷◌, ◌++◌, Bool, ⊤}
use Rattle.std.specs.Prelude.{IfSome, OnOk, Result, false, true}
use Rattle.std.specs.Io.KnownBytes.{Appends, IsAtEnd}
use Rattle.std.specs.List.{flat_map}
use Rattle.ascii.specs.Lines.{Line, LinesEndedBy}
use Rattle.ascii.specs.declared.iter.spans.Ending.{Ending}
use Rattle.ascii.specs.declared.iter.spans.Endings.{Endings}
use Rattle.ascii_devices.specs.Buffered.{OutputState}
use Rattle.ascii_devices.specs.Devices.{Grows, received_of, sent_of}
use Rattle.ascii_devices.specs.States.{Gives, SourceState, of_state}
use Rattle.ascii_devices.specs.declared.Sink.{Ghosts}
use Rattle.ascii_devices.specs.declared.log.Event.{Event}
use Rattle.ascii_devices.specs.declared.log.Event.TheVariants.{Flushed, Read}
use Rattle.ascii_lines.specs.Exchanges.{bytes_of, said_in}
use Rattle.ascii_lines.specs.Failures.{one_more}
use Rattle.ascii_lines.specs.History.{EndsInEmptyRead}
use Rattle.ascii_lines.specs.LineBuffer.{FailsOnce, ReadsOnce}
use Rattle.ascii_lines.specs.LineWriter.{FlushesOutcome, WritesLine, Writing, fresh_writer}
use Rattle.ascii_lines.specs.Replies.{Reply, Saying, Step, reply_bytes, reply_text, sent_out}
use Rattle.ascii_lines.specs.Turns.{Converses, IsOver, IsRequested, Lacks, OnlyMoves, Place}
use Rattle.ascii_lines.specs.Turns.{TalkState, Turns, fresh_talk, is_ended, place_of, place_sent}
use Rattle.ascii_lines.specs.Turns.{place_with, supply_at}
use Rattle.ascii_lines.specs.declared.conversation.Awaited.TheVariants.{Input, Nothing, Sending}
use Rattle.ascii_lines.specs.declared.conversation.Supply.{Supply}
use Rattle.ascii_lines.specs.declared.conversation.Supply.TheVariants as supply
use Rattle.ascii_lines.specs.declared.line_reader.LineError.{LineError}
use Rattle.ascii_lines.specs.declared.line_reader.LineError.TheVariants as error
use Rattle.ascii_lines.specs.declared.line_writer.WriteError.{WriteError}
use Rattle.ascii_lines.specs.declared.serving.Next.{Next}
use Rattle.ascii_lines.specs.declared.serving.Next.TheVariants as next
use Rattle.ascii_lines.specs.declared.serving.Stop.{Stop}
use Rattle.ascii_lines.specs.declared.serving.Stop.TheVariants as stop

-- ---- a channel

-- the state of a channel of lines: its conversation; the state of its device, with the buffer of
-- replies before it; and the ending of its replies
pub record ChannelState : Type 0 where
  pub talk : TalkState
  pub output : OutputState
  pub ending : Ending

-- what contracts see of a channel: its device and its state
pub record Conversing (C : Type 0) : Type 0 where
  pub device : C
  pub state : ChannelState

-- the state of a new channel
abbrev pub fresh_channel
    : {C : Type 0} → ℕ → Endings → Ending → Ghosts C → C → ChannelState
fresh_channel size endings ending says device = record {
  talk = fresh_talk size endings;
  output = fresh_writer size says device;
  ending = ending;
}

-- what a device of both directions says of itself as a source, by what it says as a sink
abbrev pub read_side : OutputState → SourceState
read_side output = record {
  rest = output.aside.bytes;
  failures = output.aside.failures;
  history = output.history;
  aside = record { bytes = output.taken; failures = output.failures };
}

-- no call of the device of a channel to write has failed
abbrev pub IsUp : ChannelState → Type 0
IsUp lines = lines.output.buffer.is_broken ≡ false

-- ---- time

-- the last event but reads and what they gave is a flush
abbrev pub IsFlushed : List Event → Type 0
IsFlushed events = (before after : List Event) × (events ≡ before ++ Flushed ∷ after)
    × (sent_of after ≡ [])

-- of these events, which come after the events `past`, `P` is true of all that came before each
-- read
abbrev pub AtEachRead : (List Event → Type 0) → List Event → List Event → Type 0
AtEachRead P past [] = ⊤
AtEachRead P past (Read ∷ events) = P past × AtEachRead P (past ++ Read ∷ []) events
AtEachRead P past (other ∷ events) = AtEachRead P (past ++ other ∷ []) events

module _ {H : Type 0} (answers : H → Line → List Reply → Next → H → Type 0)
    (refuses : H → LineError → List Reply → Next → H → Type 0) where
  -- after the events `past` of a channel in the state `first`, all that came was answered, and all
  -- answers were sent and flushed: the bytes that came led to `place`, and what is awaited there is
  -- not among those that are left
  pub record IsAnswered (first : ChannelState) (handler : H) (past : List Event) : Type 0 where
    pub steps : List Step
    pub place : Place H
    pub turns : Turns answers refuses first.talk.endings first.talk.size supply.Open
        (place_with (record first.talk { awaited = Input next.Line }) handler (received_of past))
        steps place
    pub lacks : Lacks first.talk.endings first.talk.size place.awaited place.start place.text
    pub sent : sent_of past ≡ first.output.buffer.bytes ++ reply_bytes first.ending (said_in steps)
    pub flushed : IsFlushed past

-- of these steps, which come after the steps `past`, `P` is true of all that came before each at
-- which replies were sent for the handler
abbrev pub AtEachSending : (List Step → Type 0) → List Step → List Step → Type 0
AtEachSending P past [] = ⊤
AtEachSending P past (sent_out ∷ steps) = P past × AtEachSending P (past ++ sent_out ∷ []) steps
AtEachSending P past (other ∷ steps) = AtEachSending P (past ++ other ∷ []) steps

-- the first events of a channel in the state `first` brought what the steps `before` took, and sent
-- and flushed all replies of these and no others; the events `later` came after them
pub record AreSentFirst (first : ChannelState) (events : List Event) (before : List Step) : Type 0
  where
    pub past : List Event
    pub later : List Event
    pub all : events ≡ past ++ later
    pub left : List ℕ
    pub came : first.talk.held ++ received_of past ≡ bytes_of before ++ left
    pub sent : sent_of past ≡ first.output.buffer.bytes ++ reply_bytes first.ending (said_in before)
    pub flushed : IsFlushed past

-- ---- the whole conversation

module _ {H : Type 0} (answers : H → Line → List Reply → Next → H → Type 0)
    (refuses : H → LineError → List Reply → Next → H → Type 0) where
  -- a conversation over a channel led from the state `old` to the state `new`, and a handler from
  -- the state `handler` to `last`: what was taken and answered, step by step; and what happened at
  -- the device. `now` tells whether the input has ended after the bytes that came, or could not be
  -- read
  pub record Talk (old : ChannelState) (handler : H) (new : ChannelState) (last : H) : Type 0 where
    pub steps : List Step
    pub events : List Event
    pub now : Supply
    pub turns : Turns answers refuses old.talk.endings old.talk.size now
        (place_with (record old.talk { awaited = Input next.Line }) handler (received_of events))
        steps (place_of new.talk last)
    pub grows : Grows old.output.history new.output.history events
    pub prompt : AtEachRead (IsAnswered answers refuses old handler) [] events
    pub ordered : AtEachSending (AreSentFirst old events) [] steps
    pub gave : Gives of_state (read_side old.output) (read_side new.output) (received_of events)
    pub took : Appends old.output.taken new.output.taken (sent_of events)
    pub ended : is_ended now ≡ new.talk.is_at_end
    pub at_end : new.talk.is_at_end ≡ true
        → (old.talk.is_at_end ≡ true) ⊎ EndsInEmptyRead events
    pub reads : (new.output.aside.failures ≡ old.output.aside.failures)
        ⊎ ((now ≡ supply.Failed) × ((why : Stop) × (new.talk.awaited ≡ Nothing why)
        × ((why ≡ stop.Reader error.Read) ⊎ (why ≡ stop.Writer))))
    pub size : new.talk.size ≡ old.talk.size
    pub endings : new.talk.endings ≡ old.talk.endings
    pub ending : new.ending ≡ old.ending

-- what the device took of `bytes`, which were to be written, by these events: all of them, and they
-- were flushed; or, if the conversation stopped since it failed, a prefix
abbrev pub Wrote : Stop → OutputState → List Event → List ℕ → OutputState → Type 0
Wrote stop.Writer old events bytes new = ((others : List ℕ) × (sent_of events ++ others ≡ bytes))
    × (new.failures ≡ one_more old.failures) × (new.buffer.is_broken ≡ true)
Wrote other old events bytes new = (sent_of events ≡ bytes) × IsFlushed events
    × (new.buffer.bytes ≡ []) × (new.failures ≡ old.failures) × (new.buffer.is_broken ≡ false)

module _ {H : Type 0} (answers : H → Line → List Reply → Next → H → Type 0)
    (refuses : H → LineError → List Reply → Next → H → Type 0) where
  -- a conversation was held, and its replies were written after the bytes that the channel held
  -- before it. It stopped since nothing is awaited, for this reason, or since the device failed
  pub record Serves (old : ChannelState) (handler : H) (why : Stop) (new : ChannelState)
      (last : H) : Type 0 where
    pub talk : Talk answers refuses old handler new last
    pub stops : (why ≡ stop.Writer) ⊎ (new.talk.awaited ≡ Nothing why)
    pub used : why ≡ stop.EndOfInput → (talk.now ≡ supply.Ended) × (new.talk.held ≡ [])
    pub end : new.talk.is_at_end ≡ true → IsAtEnd new.output.aside.bytes
    pub wrote : Wrote why old.output talk.events
        (old.output.buffer.bytes ++ reply_bytes old.ending (said_in talk.steps)) new.output

-- `lines` are the lines of the input of a channel from the state `old` on, if its bytes are known,
-- and its device took the bytes that were held for it, and then the reply to each of them, in order
pub record RepliesToAll (reply : Line → Reply) (old new : ChannelState) : Type 0 where
  pub lines : List Line
  pub input : IfSome old.output.aside.bytes (λ rest.
      LinesEndedBy old.talk.endings (old.talk.held ++ rest) lines)
  pub output : Appends old.output.taken new.output.taken (old.output.buffer.bytes
      ++ flat_map (λ line. reply_text old.ending (reply line)) lines)

-- a channel as a writer
abbrev pub writing_of : {C : Type 0} → Conversing C → Writing C
writing_of lines = record { sink = lines.device; state = lines.state.output }

-- what a greeting does: its line is written as by a writer, and the channel is otherwise unchanged
pub record Greets {C : Type 0} (old : Conversing C) (body : List ℕ)
    (result : Result (Unit {0}) WriteError) (new : Conversing C) : Type 0 where
  pub writes : WritesLine (writing_of old) (record { body = body; ending = old.state.ending })
      result (writing_of new)
  pub up : IsUp old.state → OnOk result (IsUp new.state)
  pub talk : new.state.talk ≡ old.state.talk
  pub ending : new.state.ending ≡ old.state.ending

-- the replies were sent, or not, as by a writer
abbrev pub SendsOut : {K : Type 0}
    → Saying K → Result (Unit {0}) WriteError → Saying K → Type 0
SendsOut old result new = FlushesOutcome (record { sink = old.sink; state = old.state }) result
    (record { sink = new.sink; state = new.state }) × (new.ending ≡ old.ending)

-- ---- cited by private functions only

-- where a server begins: it awaits a line, and `received` come after the bytes that the channel
-- holds
abbrev pub first_place : {H : Type 0} → ChannelState → H → List ℕ → Place H
first_place lines handler received =
    place_with (record lines.talk { awaited = Input next.Line }) handler received

-- a failed read is the reason why a conversation stopped: or its device failed to write then
abbrev pub IsUnread : Stop → Type 0
IsUnread why = (why ≡ stop.Reader error.Read) ⊎ (why ≡ stop.Writer)

-- of the bytes `all` these were sent, and the others are held; or, after a failure, are lost
abbrev pub SentBy : Bool → List ℕ → List ℕ → List ℕ → Type 0
SentBy false sent held all = sent ++ held ≡ all
SentBy true sent held all = (others : List ℕ) × (sent ++ others ≡ all)

-- a count of failures, after a failure and without one
abbrev pub CountsBy : Bool → ℕ → ℕ → Type 0
CountsBy false old new = new ≡ old
CountsBy true old new = new ≡ one_more old

-- a channel as a place for replies
abbrev pub saying_of : {C : Type 0} → Conversing C → Saying C
saying_of lines = record {
  sink = lines.device;
  state = lines.state.output;
  ending = lines.state.ending;
}

-- the source was read once, and `read` came: some bytes; none, at its end; or none, since a call
-- failed, or as many as can be counted have failed
abbrev pub IsRead : Supply → SourceState → SourceState → List ℕ → Type 0
IsRead supply.Failed old new read = (FailsOnce old new ⊎ (new ≡ old)) × (read ≡ [])
IsRead supply.Ended old new read = ReadsOnce old new read × (read ≡ [])
IsRead supply.Open old new read = ReadsOnce old new read × (read ≢ [])

module _ {H C : Type 0} (answers : H → Line → List Reply → Next → H → Type 0)
    (refuses : H → LineError → List Reply → Next → H → Type 0) where
  -- the device of the replies was read once, and every step was taken that the bytes complete
  pub record ReadsOn (old : TalkState) (handler : H) (out : Saying C) (new : TalkState) (last : H)
      (said : Saying C) : Type 0 where
    pub mid : Saying C
    pub read : List ℕ
    pub now : Supply
    pub buffer : mid.state.buffer ≡ out.state.buffer
    pub ending : mid.ending ≡ out.ending
    pub reads : IsRead now (read_side out.state) (read_side mid.state) read
    pub converses : Converses answers refuses old.endings old.size now
        (place_with old handler read) mid (place_of new last) said
    pub ended : is_ended now ≡ new.is_at_end
    pub unread : now ≡ supply.Failed → (why : Stop) × (new.awaited ≡ Nothing why) × IsUnread why
    pub size : new.size ≡ old.size
    pub endings : new.endings ≡ old.endings

module _ {H C : Type 0} (answers : H → Line → List Reply → Next → H → Type 0)
    (refuses : H → LineError → List Reply → Next → H → Type 0) where
  -- the replies were sent, and every step was taken that the bytes held complete
  pub record GoesOn (old : TalkState) (handler : H) (out : Saying C) (new : TalkState) (last : H)
      (said : Saying C) : Type 0 where
    pub converses : Converses answers refuses old.endings old.size (supply_at old.is_at_end)
        (place_sent old handler) out (place_of new last) said
    pub moves : OnlyMoves old new

module _ {H : Type 0} (answers : H → Line → List Reply → Next → H → Type 0)
    (refuses : H → LineError → List Reply → Next → H → Type 0) where
  -- a conversation over a channel so far, of which the last replies may be held by the channel
  pub record SoFar (old : ChannelState) (handler : H) (new : ChannelState) (last : H) : Type 0 where
    pub talk : Talk answers refuses old handler new last
    pub sent : SentBy new.output.buffer.is_broken (sent_of talk.events) new.output.buffer.bytes
        (old.output.buffer.bytes ++ reply_bytes old.ending (said_in talk.steps))
    pub count : CountsBy new.output.buffer.is_broken old.output.failures new.output.failures
    pub going : (talk.now ≡ supply.Open) ⊎ IsOver new.talk.awaited
        ⊎ ((new.talk.awaited ≡ Sending) × (talk.now ≡ supply_at new.talk.is_at_end))
    pub request : IsRequested new.talk.awaited
    pub used : new.talk.awaited ≡ Nothing stop.EndOfInput
        → (talk.now ≡ supply.Ended) × (new.talk.held ≡ [])
    pub lacks : Lacks old.talk.endings old.talk.size new.talk.awaited new.talk.start new.talk.held
        ⊎ (new.talk.awaited ≡ Sending) ⊎ IsOver new.talk.awaited
    pub failed : new.talk.awaited ≡ Nothing stop.Writer → new.output.buffer.is_broken ≡ true
