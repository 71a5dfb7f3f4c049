-- A conversation over a device: steps, writes and reads, one after another.
use Rattle.std.proofs.Common.{◌≡◌, ◌≢◌, ◌⊎◌, ◌∙◌, ℕ, ◌+◌, ◌-◌, ◌*◌, ◌^◌, ◌<◌, ◌≤◌, List, [], ◌∷◌}
use Rattle.std.proofs.Common.{◌++◌, Bool}
use Rattle.std.proofs.Common.{Err, None, Ok, Some, ap, append_assoc, append-nil, arith, false, inl}
use Rattle.std.proofs.Common.{inr, length, length-append, refl, subst, sym, true, ◌==◌}
use Rattle.std.proofs.KnownBytes.{Appends-nil, Appends-trans}
use Rattle.std.proofs.lemmas.Bool.{false≢true}
use Rattle.std.proofs.lemmas.Grind.{flat_map-append}
use Rattle.std.specs.Io.KnownBytes.{Appends, IsAtEnd}
use Rattle.ascii.specs.Lines.{Line}
use Rattle.ascii.specs.declared.iter.spans.Endings.{Endings}
use Rattle.ascii_devices.proofs.HistoryLemmas.{Gives-nil, Gives-read, Grows-nil, Grows-trans, Tells}
use Rattle.ascii_devices.proofs.HistoryLemmas.{received_of-append, sent_of-all, sent_of-append}
use Rattle.ascii_devices.proofs.HistoryLemmas.{tells-by, tells-more, Gives-trans, read_fails}
use Rattle.ascii_devices.proofs.ListLemmas.{append_two}
use Rattle.ascii_devices.specs.Buffered.{BufferState, OutputState}
use Rattle.ascii_devices.specs.Devices.{Aside, Grows, read_of, received_of, sent_of, write_of}
use Rattle.ascii_devices.specs.States.{Gives, SourceState, of_state}
use Rattle.ascii_devices.specs.declared.log.Event.{Event}
use Rattle.ascii_devices.specs.declared.log.Event.TheVariants.{Flushed, Read}
use Rattle.ascii_lines.specs.Exchanges.{SendsNothing, bytes_of, said_in}
use Rattle.ascii_lines.specs.History.{AreWrites, EndsInEmptyRead, TellsSent}
use Rattle.ascii_lines.specs.LineBuffer.{ReadsOnce}
use Rattle.ascii_lines.specs.LineWriter.{Flushes, FlushesFrom}
use Rattle.ascii_lines.specs.Replies.{Reply, SaysBytes, Saying, Step, reply_bytes, sent_out}
use Rattle.ascii_lines.specs.Serve.{AreSentFirst, AtEachRead, AtEachSending, ChannelState}
use Rattle.ascii_lines.specs.Serve.{CountsBy, GoesOn, IsAnswered, IsFlushed}
use Rattle.ascii_lines.specs.Serve.{IsRead, IsUnread, IsUp, ReadsOn, SendsOut, SentBy, Serves}
use Rattle.ascii_lines.specs.Serve.{SoFar, Talk, Wrote, first_place, read_side, Conversing}
use Rattle.ascii_lines.specs.Serve.{saying_of, writing_of}
use Rattle.ascii_lines.specs.Turns.{OnlyMoves, Converses, IsOver, Lacks, Place}
use Rattle.ascii_lines.specs.Turns.{TalkState, Turns}
use Rattle.ascii_lines.specs.Turns.{is_ended, place_of, place_with, stop_of, supply_at, with_more}
use Rattle.ascii_lines.specs.declared.conversation.Awaited.{Awaited}
use Rattle.ascii_lines.specs.declared.conversation.Awaited.TheVariants.{Input, Nothing, Sending}
use Rattle.ascii_lines.specs.declared.conversation.Supply.{Supply}
use Rattle.ascii_lines.specs.declared.conversation.Supply.TheVariants as supply
use Rattle.ascii_lines.specs.declared.line_reader.LineError.{LineError}
use Rattle.ascii_lines.specs.declared.line_writer.WriteError.{WriteError}
use Rattle.ascii_lines.specs.declared.serving.Next.{Next}
use Rattle.ascii_lines.specs.declared.serving.Next.TheVariants as next
use Rattle.ascii_lines.specs.declared.serving.Stop.{Stop}
use Rattle.ascii_lines.specs.declared.serving.Stop.TheVariants as stop
use Rattle.ascii_lines.proofs.GathersLemmas.{is_none, is_some}
use Rattle.ascii_lines.proofs.HistoryLemmas.{AreWrites-append, AreWrites-sent, AtEachRead-append}
use Rattle.ascii_lines.proofs.HistoryLemmas.{AtEachRead-received, AtEachRead-writes}
use Rattle.ascii_lines.proofs.SendingLemmas.{AtEachSending-last, AtEachSending-more}
use Rattle.ascii_lines.proofs.SendingLemmas.{AtEachSending-then, sends_take}
use Rattle.ascii_lines.proofs.HistoryLemmas.{IsFlushed-after, IsFlushed-last, received_of-bytes}
use Rattle.ascii_lines.proofs.HistoryLemmas.{received_of-writes, sent_of-bytes}
use Rattle.ascii_lines.proofs.TurnsLemmas.{Turns-append, Turns-bytes, Turns-more, said-append}
use Rattle.ascii_lines.proofs.TurnsLemmas.{supply_ended}
use Rattle.ascii_lines.proofs.WantedLemmas.{some_length}

-- some bytes were given, and then others written
then_written : (a b c : OutputState) (bytes : List ℕ) (events : List Event)
    → Gives of_state (read_side a) (read_side b) bytes → AreWrites events
    → Grows b.history c.history events → c.aside ≡ b.aside
    → Gives of_state (read_side a) (read_side c) bytes
then_written a b c bytes events gives writes grows aside = record {
  rest = gives.rest;
  gave = gives.gave;
  left = rw aside gives.left;
  told = subst (Tells received_of a.history c.history) (append-nil bytes)
      (tells-more received_of received_of-append a.history b.history c.history bytes [] gives.told
      (grind (arith, tells-by, received_of-writes)));
}

pub supply_reads : (is_at_end : Bool) → supply_at is_at_end ≢ supply.Failed
supply_reads is_at_end is = grind arith

-- what is known of each supply but the failed one, and of that one
by_supply : {P R : Type 0} (now : Supply) → (now ≢ supply.Failed → P)
    → (now ≡ supply.Failed → R) → P ⊎ ((now ≡ supply.Failed) × R)
by_supply now kept unread = grind arith

-- a conversation that goes on awaits more bytes, or that the replies are sent
going_by : (now : Supply) (awaited : Awaited) (is_at_end : Bool)
    → (now ≡ supply.Open) ⊎ IsOver awaited ⊎ (awaited ≡ Sending) → is_ended now ≡ is_at_end
    → (now ≡ supply.Failed → (why : Stop) × (awaited ≡ Nothing why) × IsUnread why)
    → (now ≡ supply.Open) ⊎ IsOver awaited
    ⊎ ((awaited ≡ Sending) × (now ≡ supply_at is_at_end))
going_by now awaited is_at_end closed ended unread = grind arith

-- ---- how long a server may go on

-- how many bytes may come until the position is too far
abbrev pub read_room : TalkState → ℕ
read_room talk = (2 ^ 64 + talk.size + 2) - (talk.start + length talk.held)

-- how many bytes may come, and how many may be taken
abbrev pub calls_room : TalkState → ℕ
calls_room talk = 2 * (read_room talk + (2 ^ 64 - talk.start))

abbrev pub calls_of : Awaited → TalkState → ℕ
calls_of (Nothing why) talk = 0
calls_of Sending talk = calls_room talk + 1
calls_of awaited talk = calls_room talk

-- a measure of what is left to read and to send: nothing, if the conversation is over
abbrev pub calls_left : TalkState → ℕ
calls_left talk = calls_of talk.awaited talk

calls_all : (awaited : Awaited) (talk : TalkState) → ¬ (IsOver awaited) → awaited ≢ Sending
    → calls_of awaited talk ≡ calls_room talk
calls_all awaited talk apart waits = grind arith

-- what is left is as much as there is room for, and one more if the replies are to be sent first
calls_most : (awaited : Awaited) (talk : TalkState)
    → (calls_of awaited talk ≤ calls_room talk)
    ⊎ ((awaited ≡ Sending) × (calls_of awaited talk ≡ calls_room talk + 1))
calls_most awaited talk = grind arith

-- why a conversation is over, or that it is not
pub stop_is : (awaited : Awaited) (why : Stop) → stop_of awaited ≡ Some why
    → awaited ≡ Nothing why
stop_is awaited why is = grind arith

pub stop_none : (awaited : Awaited) → stop_of awaited ≡ None → ¬ (IsOver awaited)
stop_none awaited is over = grind arith

-- what came by one read
pub read_is : {a b : SourceState} (is_at_end : Bool) (read : List ℕ)
    → is_at_end ≡ (length read == 0) → ReadsOnce a b read → IsRead (supply_at is_at_end) a b read
read_is {a} {b} is_at_end read is reads = grind (arith, is_none, is_some)

pub then_right : {P Q : Type 0} → P ⊎ Q → ¬ P → Q
then_right first apart = grind arith

module _ {H : Type 0} (answers : H → Line → List Reply → Next → H → Type 0)
    (refuses : H → LineError → List Reply → Next → H → Type 0) (old : ChannelState)
    (handler : H) where
  abbrev Answered : List Event → Type 0
  Answered past = IsAnswered answers refuses old handler past

  abbrev endings : Endings
  endings = old.talk.endings

  abbrev size : ℕ
  size = old.talk.size

  abbrev said_bytes : List Step → List ℕ
  said_bytes steps = old.output.buffer.bytes ++ reply_bytes old.ending (said_in steps)

  -- steps led to a place, and some replies to them may be held
  pub record Base (now : Supply) (place : Place H) (output : OutputState) : Type 0 where
    pub steps : List Step
    pub events : List Event
    pub turns : Turns answers refuses endings size now (first_place old handler
        (received_of events))
        steps place
    pub grows : Grows old.output.history output.history events
    pub prompt : AtEachRead Answered [] events
    pub ordered : AtEachSending (AreSentFirst old events) [] steps
    pub gave : Gives of_state (read_side old.output) (read_side output) (received_of events)
    pub took : Appends old.output.taken output.taken (sent_of events)
    pub sent : SentBy output.buffer.is_broken (sent_of events) output.buffer.bytes
        (said_bytes steps)
    pub count : CountsBy output.buffer.is_broken old.output.failures output.failures
    pub at_end : is_ended now ≡ true → (old.talk.is_at_end ≡ true) ⊎ EndsInEmptyRead events
    pub kept : now ≢ supply.Failed → output.aside.failures ≡ old.output.aside.failures

  base-first : IsUp old
      → Base (supply_at old.talk.is_at_end) (first_place old handler []) old.output
  base-first whole = record {
    steps = [];
    events = [];
    turns = refl;
    grows = Grows-nil old.output.history;
    prompt = tt;
    ordered = tt;
    gave = Gives-nil of_state (read_side old.output);
    took = Appends-nil old.output.taken;
    sent = rw whole (sym (append-nil old.output.buffer.bytes));
    count = rw whole refl;
    at_end = λ is. inl (sym (supply_ended old.talk.is_at_end) ∙ is);
    kept = λ _. refl;
  }

  -- more events, and the replies to steps of which `more` are new
  base-more : {now then : Supply} {mid new : Place H} (a b : OutputState) (o : Base now mid a)
      → a.buffer.is_broken ≡ false → (steps : List Step) (more : List Reply) (events : List Event)
      → said_in steps ≡ said_in o.steps ++ more
      → Turns answers refuses endings size then
      (first_place old handler (received_of (o.events ++ events))) steps new
      → Grows a.history b.history events → AtEachRead Answered o.events events
      → AtEachSending (AreSentFirst old (o.events ++ events)) [] steps
      → Gives of_state (read_side old.output) (read_side b) (received_of (o.events ++ events))
      → Appends a.taken b.taken (sent_of events)
      → SentBy b.buffer.is_broken (sent_of events) b.buffer.bytes
      (a.buffer.bytes ++ reply_bytes old.ending more)
      → CountsBy b.buffer.is_broken a.failures b.failures
      → (is_ended then ≡ true → (old.talk.is_at_end ≡ true) ⊎ EndsInEmptyRead (o.events ++ events))
      → (then ≢ supply.Failed → b.aside.failures ≡ old.output.aside.failures) → Base then new b
  base-more a b o whole steps more events said turns grows prompt ordered gave took sent count at_end
      kept =
      grind (
        arith,
        Grows-trans,
        AtEachRead-append,
        sent_of-append,
        Appends-trans,
        flat_map-append,
        append_two,
      )

  -- writes, for the replies to more steps
  base-writes : {now : Supply} {mid new : Place H} (a b : OutputState) → Base now mid a
      → a.buffer.is_broken ≡ false → (more : List Step) → SendsNothing more
      → Turns answers refuses endings size now mid more new → (sent : List ℕ)
      → TellsSent a.history b.history sent
      → SentBy b.buffer.is_broken sent b.buffer.bytes
      (a.buffer.bytes ++ reply_bytes old.ending (said_in more))
      → CountsBy b.buffer.is_broken a.failures b.failures
      → Appends a.taken b.taken sent → b.aside ≡ a.aside → Base now new b
  base-writes {now} {mid} {new} a b o whole more unsent turns sent told held count took aside =
      let same : received_of (o.events ++ told.events) ≡ received_of o.events =
      grind (arith, received_of-append, received_of-writes, append-nil) in
      base-more a b o whole (o.steps ++ more) (said_in more) told.events (said-append o.steps more)
      (grind (arith, Turns-append))
      told.grows (AtEachRead-writes Answered o.events told.events told.writes)
      (AtEachSending-more old o.events told.events [] o.steps more o.ordered unsent)
      (grind (arith, then_written)) (rw told.noted took) (rw told.noted held) count
      (grind (arith, append_assoc, AreWrites-append)) (rw aside o.kept)

  -- the replies to more steps
  base-says : {now : Supply} {mid new : Place H} (a b : OutputState) → Base now mid a
      → a.buffer.is_broken ≡ false → (more : List Step) → SendsNothing more
      → Turns answers refuses endings size now mid more new
      → SaysBytes false a (reply_bytes old.ending (said_in more)) b → Base now new b
  base-says a b o whole more unsent turns (inl w) =
      base-writes a b o whole more unsent turns w.passed.sent w.passed.told
      (rw w.stage w.passed.all) (rw w.stage w.failures) w.passed.took w.aside
  base-says a b o whole more unsent turns (inr w) =
      base-writes a b o whole more unsent turns w.passed.sent w.passed.told
      (rw w.stage (w.passed.others, w.passed.all)) (rw w.stage w.failures) w.passed.took w.aside

  -- all replies were sent and flushed
  record Settled (now : Supply) (place : Place H) (output : OutputState) : Type 0 where
    pub base : Base now place output
    pub none : output.buffer.bytes ≡ []
    pub flushed : IsFlushed base.events
    pub whole : output.buffer.is_broken ≡ false

  base-flushed : {now : Supply} {place : Place H} (a b : OutputState) → Base now place a
      → a.buffer.is_broken ≡ false → Flushes a b → Settled now place b
  unfolding base-writes base-more
  base-flushed a b o whole f =
      let events = write_of a.buffer.bytes ++ Flushed ∷ [] in
      record {
        base = base-writes a b o whole [] tt refl a.buffer.bytes (record {
          events = events;
          grows = f.told;
          writes = AreWrites-append (write_of a.buffer.bytes) (Flushed ∷ [])
              (AreWrites-sent a.buffer.bytes) tt;
          noted = simp (sent_of-append, sent_of-all, append-nil);
        }) (rw f.stage (ap (λ xs. a.buffer.bytes ++ xs) f.none)) (rw f.stage f.failures) f.took
            f.aside;
        none = f.none;
        flushed = IsFlushed-after o.events events (IsFlushed-last (write_of a.buffer.bytes));
        whole = f.stage;
      }

  settled_sent : {now : Supply} {place : Place H} {output : OutputState}
      (s : Settled now place output) → sent_of s.base.events ≡ said_bytes s.base.steps
  settled_sent s = rw (s.whole, s.none, append-nil) at s.base.sent

  -- the handler had asked for that
  then_sent : {now : Supply} (place : Place H) (output : OutputState)
      (s : Settled now place output) → place.awaited ≡ Sending
      → Base now (record place { awaited = Input next.Line }) output
  then_sent {now} place output s is =
      let o = s.base in
      base-more output output o s.whole (o.steps ++ sent_out ∷ []) [] []
      (said-append o.steps (sent_out ∷ []))
      (Turns-append answers refuses endings size now
      (first_place old handler (received_of (o.events ++ []))) place
      (record place { awaited = Input next.Line }) o.steps (sent_out ∷ [])
      (rw (append-nil o.events) o.turns)
      (record place { awaited = Input next.Line }, rw is refl, refl))
      (Grows-nil output.history) tt
      (rw (append-nil o.events) (AtEachSending-last old o.events o.steps o.ordered (record {
        past = o.events;
        later = [];
        all = sym (append-nil o.events);
        left = place.text;
        came = (Turns-bytes answers refuses endings size now
            (first_place old handler (received_of o.events)) place o.steps o.turns).0;
        sent = settled_sent s;
        flushed = s.flushed;
      })))
      (rw (append-nil o.events) o.gave) (Appends-nil output.taken)
      (rw s.whole (sym (append-nil output.buffer.bytes))) (rw s.whole refl)
      (λ ends. rw (append-nil o.events) (o.at_end ends)) o.kept

  module _ (place : Place H) (a b : OutputState) (s : Settled supply.Open place a)
      (lacks : Lacks endings size place.awaited place.start place.text)
      (buffer : b.buffer ≡ a.buffer) where
    going : ¬ (IsOver place.awaited)
    going over = subst (λ w. Lacks endings size w place.start place.text) over.1 lacks

    answered : Answered s.base.events
    answered = record {
      steps = s.base.steps;
      place = place;
      turns = s.base.turns;
      lacks = lacks;
      sent = settled_sent s;
      flushed = s.flushed;
    }

    open_kept : a.aside.failures ≡ old.output.aside.failures
    open_kept = s.base.kept (λ is. cc)

    -- the device was called once or not, and these bytes came
    base-read : {now : Supply} (read : List ℕ) (events : List Event)
        → Grows a.history b.history events → sent_of events ≡ [] → received_of events ≡ read
        → AtEachRead Answered s.base.events events → b.taken ≡ a.taken → b.failures ≡ a.failures
        → Gives of_state (read_side old.output) (read_side b) (received_of s.base.events ++ read)
        → (is_ended now ≡ true → EndsInEmptyRead (s.base.events ++ events))
        → (now ≢ supply.Failed → b.aside.failures ≡ a.aside.failures)
        → Base now (with_more place read) b
    base-read {now} read events grows silent came prompt same count gave ends kept =
        let o = s.base in
        let received : received_of (o.events ++ events) ≡ received_of o.events ++ read =
        received_of-append o.events events ∙ ap (λ xs. received_of o.events ++ xs) came in
        base-more a b o s.whole o.steps [] events (sym (append-nil (said_in o.steps)))
        (rw (received, ← append_assoc old.talk.held (received_of o.events) read)
        (Turns-more answers refuses endings size now
        (first_place old handler (received_of o.events)) place o.steps read (λ _. going) o.turns))
        grows prompt (AtEachSending-then old o.events events [] o.steps o.ordered)
        (rw received gave) (rw (silent, same) (Appends-nil a.taken))
        (rw (buffer, s.whole, silent) (sym (append-nil a.buffer.bytes)))
        (rw (buffer, s.whole) count) (λ is. inr (ends is)) (λ reads. kept reads ∙ open_kept)

    once : {now : Supply} (read : List ℕ) → ReadsOnce (read_side a) (read_side b) read
        → (is_ended now ≡ true → read ≡ []) → Base now (with_more place read) b
    once read reads ends = base-read read (read_of read) reads.told (sent_of-bytes read)
        (received_of-bytes read)
        (answered, AtEachRead-received Answered (s.base.events ++ Read ∷ []) read)
        (ap (λ (side : Aside). side.bytes) reads.aside)
        (ap (λ (side : Aside). side.failures) reads.aside)
        (Gives-read of_state (read_side old.output) (read_side a) (read_side b)
        (received_of s.base.events) read open_kept reads.failures s.base.gave reads.gave reads.told)
        (λ is. (s.base.events, [], ap (λ xs. s.base.events ++ read_of xs) (ends is), tt))
        (λ _. reads.failures)

    -- the device was read
    then_read : (now : Supply) (read : List ℕ) → IsRead now (read_side a) (read_side b) read
        → Base now (with_more place read) b
    then_read supply.Open read (reads, some) = once read reads (λ is. absurd (false≢true is))
    then_read supply.Ended read (reads, none) = once read reads (λ _. none)
    then_read supply.Failed read (fails, none) = rw none (elim fails [
      | inl once ↦ base-read [] (read_of []) once.told refl refl (answered, tt)
          (ap (λ (side : Aside). side.bytes) once.aside)
          (ap (λ (side : Aside). side.failures) once.aside)
          (Gives-trans of_state (read_side old.output) (read_side a) (read_side b)
          (received_of s.base.events) [] open_kept s.base.gave
          (read_fails of_state (read_side a) (read_side b) once.failures once.told))
          (λ is. absurd (false≢true is)) (λ apart. absurd (apart refl))
      | inr same ↦ base-read [] []
          (grind (arith, Grows-nil)) refl refl tt (ap (λ (d : SourceState). d.aside.bytes) same)
          (ap (λ (d : SourceState). d.aside.failures) same) (grind (arith, append-nil))
          (λ is. absurd (false≢true is)) (λ apart. absurd (apart refl))
    ])

  -- ---- the state of the channel

  abbrev talk_of : (now : Supply) (new : ChannelState) (last : H)
      → Base now (place_of new.talk last) new.output → is_ended now ≡ new.talk.is_at_end
      → (new.output.aside.failures ≡ old.output.aside.failures)
      ⊎ ((now ≡ supply.Failed) × ((why : Stop) × (new.talk.awaited ≡ Nothing why) × IsUnread why))
      → new.talk.size ≡ size → new.talk.endings ≡ endings → new.ending ≡ old.ending
      → Talk answers refuses old handler new last
  talk_of now new last b ended reads sized same ending = record {
    steps = b.steps;
    events = b.events;
    now = now;
    turns = b.turns;
    grows = b.grows;
    prompt = b.prompt;
    ordered = b.ordered;
    gave = b.gave;
    took = b.took;
    ended = ended;
    at_end = λ last. b.at_end (ended ∙ last);
    reads = reads;
    size = sized;
    endings = same;
    ending = ending;
  }

  -- so a conversation over the channel was held until now
  so_far : {C : Type 0} (now : Supply) (mid : Place H) (out said : Saying C) (new : TalkState)
      (last : H) → out.ending ≡ old.ending → Base now mid out.state
      → out.state.buffer.is_broken ≡ false
      → Converses answers refuses endings size now mid out (place_of new last) said
      → ¬ (IsOver mid.awaited) → is_ended now ≡ new.is_at_end
      → (now ≡ supply.Failed → (why : Stop) × (new.awaited ≡ Nothing why) × IsUnread why)
      → new.size ≡ size → new.endings ≡ endings
      → SoFar answers refuses old handler
      (record { talk = new; output = said.state; ending = said.ending }) last
  so_far now mid out said new last is o whole c apart ended unread sized same =
      let b : Base now (place_of new last) said.state = base-says out.state said.state o whole
      c.steps c.unsent c.turns (subst (λ q. SaysBytes q out.state (reply_bytes old.ending (said_in c.steps))
      said.state) whole (rw is at c.says.0)) in
      record {
        talk = talk_of now (record { talk = new; output = said.state; ending = said.ending }) last b
            ended (by_supply now b.kept unread) sized same (c.says.1 ∙ is);
        sent = b.sent;
        count = b.count;
        going = going_by now new.awaited new.is_at_end c.closed ended unread;
        request = c.rests.0;
        used = grind arith;
        lacks = grind arith;
        failed = grind arith;
      }

  -- a channel in the state of `mid`, of which the replies were to be sent, is then `now`
  module _ {C : Type 0} (mid now : Conversing C) (last : H)
      (same : now.state.talk ≡ mid.state.talk)
      (held : SoFar answers refuses old handler mid.state last)
      (left : mid.state.talk.is_at_end ≡ true → IsAtEnd mid.state.output.aside.bytes) where
    so : SoFar answers refuses old handler
        (record { talk = now.state.talk; output = mid.state.output; ending = mid.state.ending })
        last
    so = rw same held

    base_of : Base so.talk.now (place_of now.state.talk last) mid.state.output
    base_of = record {
      steps = so.talk.steps;
      events = so.talk.events;
      turns = so.talk.turns;
      grows = so.talk.grows;
      prompt = so.talk.prompt;
      ordered = so.talk.ordered;
      gave = so.talk.gave;
      took = so.talk.took;
      sent = so.sent;
      count = so.count;
      at_end = λ is. so.talk.at_end (sym so.talk.ended ∙ is);
      kept = λ apart. elim so.talk.reads [ inl reads ↦ reads | inr unread ↦ absurd (apart unread.0) ];
    }

    -- the talk, after writes
    abbrev talk_after : now.state.output.aside ≡ mid.state.output.aside
        → now.state.ending ≡ mid.state.ending
        → Base so.talk.now (place_of now.state.talk last) now.state.output
        → Talk answers refuses old handler now.state last
    talk_after aside ending b = talk_of so.talk.now now.state last b so.talk.ended
        (elim so.talk.reads [
          | inl reads ↦ inl (ap (λ (side : Aside). side.failures) aside ∙ reads)
          | inr unread ↦ inr unread
        ]) so.talk.size so.talk.endings (ending ∙ so.talk.ending)

    -- the replies could not be sent
    serves_writer : now.state.output.aside ≡ mid.state.output.aside
        → now.state.ending ≡ mid.state.ending → now.state.output.buffer.is_broken ≡ true
        → Base so.talk.now (place_of now.state.talk last) now.state.output
        → Serves answers refuses old handler stop.Writer now.state last
    serves_writer aside ending broken base = record {
      talk = talk_after aside ending base;
      stops = inl refl;
      used = λ is. cc;
      end = rw (same, aside) left;
      wrote = (rw broken at base.sent, rw broken at base.count, broken);
    }

    pub serves_unsent : (fault : WriteError) → SendsOut (saying_of mid) (Err fault) (saying_of now)
        → Serves answers refuses old handler stop.Writer now.state last
    serves_unsent fault sends = go mid.state.output.buffer.is_broken refl sends.0
      where
        go : (q : Bool) → mid.state.output.buffer.is_broken ≡ q
            → FlushesFrom q (writing_of mid) (Err fault) (writing_of now)
            → Serves answers refuses old handler stop.Writer now.state last
        go false whole fails = serves_writer fails.1.aside sends.1 fails.1.stage
            (base-says mid.state.output now.state.output base_of whole [] tt refl (inr fails.1))
        go true broken fails = grind (arith, serves_writer, base_of)

    -- they were sent
    module _ (done : Unit {0}) (sends : SendsOut (saying_of mid) (Ok done) (saying_of now)) where
      flushed : (mid.state.output.buffer.is_broken ≡ false)
          × Flushes mid.state.output now.state.output
      flushed = grind arith

      settled : Settled so.talk.now (place_of now.state.talk last) now.state.output
      settled = base-flushed mid.state.output now.state.output base_of flushed.0 flushed.1

      -- a conversation that is over has been held
      pub serves_all : (why : Stop) → now.state.talk.awaited ≡ Nothing why
          → Serves answers refuses old handler why now.state last
      serves_all why over = record {
        talk = talk_after flushed.1.aside sends.1 settled.base;
        stops = inr over;
        used = λ is. so.used (over ∙ ap Nothing is);
        end = rw (same, flushed.1.aside) left;
        wrote = wrote why over;
      }
        where
          wrote : (why : Stop) → now.state.talk.awaited ≡ Nothing why
              → Wrote why old.output settled.base.events (said_bytes settled.base.steps)
              now.state.output
          wrote stop.Writer is = absurd (false≢true (sym flushed.0 ∙ so.failed is))
          wrote _ is = grind (arith, settled_sent settled, settled)

      -- the handler is asked again
      module _ (is : now.state.talk.awaited ≡ Sending) (said : Saying C) (new : TalkState)
          (after : H) (g : GoesOn answers refuses now.state.talk last (saying_of now) new after said)
        where
          -- a line is awaited then
          abbrev asked : Place H
          asked = place_of (record now.state.talk { awaited = Input next.Line }) last

          supply_is : so.talk.now ≡ supply_at now.state.talk.is_at_end
          supply_is = grind arith

          converses_on : Converses answers refuses endings size
              (supply_at now.state.talk.is_at_end) asked (saying_of now) (place_of new after) said
          converses_on = rw (is, so.talk.endings, so.talk.size) at g.converses

          pub so_far-sent : SoFar answers refuses old handler
              (record { talk = new; output = said.state; ending = said.ending }) after
          so_far-sent = so_far (supply_at now.state.talk.is_at_end) asked (saying_of now) said new
              after (sends.1 ∙ so.talk.ending)
              (subst (λ n. Base n asked now.state.output) supply_is
              (then_sent (place_of now.state.talk last) now.state.output settled is))
              settled.whole converses_on
              (λ over. let e : Input next.Line ≡ Nothing over.0 = over.1 in cc)
              (supply_ended now.state.talk.is_at_end ∙ sym g.moves.at_end)
              (λ failed. absurd (supply_reads now.state.talk.is_at_end failed))
              (g.moves.size ∙ so.talk.size) (g.moves.endings ∙ so.talk.endings)

          pub sends_smaller : mid.state.talk.start < 2 ^ 64
              → calls_left new < calls_left mid.state.talk
          sends_smaller low = rw (← same) (
              let c = converses_on in
              grind (
                arith,
                Turns-bytes,
                length-append (bytes_of c.steps) new.held,
                calls_most new.awaited new,
                sends_take,
              ))

      -- the device was read once more
      module _ (apart : ¬ (IsOver now.state.talk.awaited)) (waits : now.state.talk.awaited ≢ Sending)
          (said : Saying C) (new : TalkState) (next : H)
          (r : ReadsOn answers refuses now.state.talk last (saying_of now) new next said) where
        lacks_now : Lacks endings size now.state.talk.awaited now.state.talk.start
            now.state.talk.held
        lacks_now = elim so.lacks [
          | inl lacks ↦ lacks
          | inr (inl sending) ↦ absurd (waits sending)
          | inr (inr over) ↦ absurd (apart over)
        ]

        converses_now : Converses answers refuses endings size r.now
            (place_with now.state.talk last r.read) r.mid (place_of new next) said
        converses_now = rw (so.talk.endings, so.talk.size) at r.converses

        settled_open : Settled supply.Open (place_of now.state.talk last) now.state.output
        settled_open = subst (λ n. Settled n (place_of now.state.talk last) now.state.output)
            (elim so.going [
              | inl is ↦ is
              | inr (inl over) ↦ absurd (apart over)
              | inr (inr sending) ↦ absurd (waits sending.0)
            ]) settled

        pub so_far-read : SoFar answers refuses old handler
            (record { talk = new; output = said.state; ending = said.ending }) next
        so_far-read = so_far r.now (place_with now.state.talk last r.read) r.mid said new next
            (r.ending ∙ (sends.1 ∙ so.talk.ending))
            (then_read (place_of now.state.talk last) now.state.output r.mid.state settled_open
            lacks_now r.buffer r.now r.read r.reads)
            (ap (λ (buf : BufferState). buf.is_broken) r.buffer ∙ settled_open.whole)
            converses_now
            apart r.ended r.unread (r.size ∙ so.talk.size) (r.endings ∙ so.talk.endings)

        pub reads_smaller : mid.state.talk.start < 2 ^ 64
            → calls_left new < calls_left mid.state.talk
        reads_smaller low = rw (← same) (go r.now r.reads converses_now)
          where
            low_now : now.state.talk.start < 2 ^ 64
            low_now = rw same low

            some : 0 < read_room now.state.talk
            some = grind (arith, lacks_now)

            all : calls_left now.state.talk ≡ calls_room now.state.talk
            all = calls_all now.state.talk.awaited now.state.talk apart waits

            go : (now' : Supply)
                → IsRead now' (read_side now.state.output) (read_side r.mid.state) r.read
                → Converses answers refuses endings size now'
                (place_with now.state.talk last r.read) r.mid (place_of new next) said
                → calls_left new < calls_left now.state.talk
            go supply.Open (reads, more) c =
                grind (
                  arith,
                  Turns-bytes,
                  length-append now.state.talk.held r.read,
                  length-append (bytes_of c.steps) new.held,
                  some_length r.read more,
                  calls_most new.awaited new,
                  all,
                  some,
                )
            go _ reads c =
                grind (
                  arith,
                  Turns-bytes,
                  length-append now.state.talk.held r.read,
                  length-append (bytes_of c.steps) new.held,
                  calls_most new.awaited new,
                  sends_take,
                  so.request,
                  all,
                  some,
                )

-- a line is awaited, and steps were taken
pub resumed : {H C : Type 0} (answers : H → Line → List Reply → Next → H → Type 0)
    (refuses : H → LineError → List Reply → Next → H → Type 0) (handler : H) (talk : TalkState)
    (out said : Saying C) → out.state.buffer.is_broken ≡ false → (new : TalkState) (last : H)
    → Converses answers refuses talk.endings talk.size (supply_at talk.is_at_end)
    (place_of (record talk { awaited = Input next.Line }) handler) out (place_of new last) said
    → OnlyMoves talk new
    → SoFar answers refuses (record { talk = talk; output = out.state; ending = out.ending })
    handler (record { talk = new; output = said.state; ending = said.ending }) last
resumed answers refuses handler talk out said up new last converses moves =
    let old : ChannelState = record { talk = talk; output = out.state; ending = out.ending } in
    so_far answers refuses old handler (supply_at talk.is_at_end) (first_place old handler []) out
    said new last refl (base-first answers refuses old handler up) up
    (rw (append-nil talk.held) converses)
    (λ over. let e : Input next.Line ≡ Nothing over.0 = over.1 in cc)
    (supply_ended talk.is_at_end ∙ sym moves.at_end)
    (λ is. absurd (supply_reads talk.is_at_end is)) moves.size moves.endings
