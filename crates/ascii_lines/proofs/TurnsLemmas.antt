-- Steps of a conversation, one after another.
use Rattle.std.proofs.Common.{◌≡◌, ◌≢◌, ◌⊎◌, ◌∙◌, ℕ, ◌+◌, ◌*◌, ◌-◌, ◌^◌, ◌<◌, ◌≤◌, List, [], ◌∷◌}
use Rattle.std.proofs.Common.{◌++◌, Bool, Err, None, Some, ap, append_assoc, append-nil, arith}
use Rattle.std.proofs.Common.{drop, false, inl, inr, length, length-append, refl, sym, take, true}
use Rattle.std.proofs.Common.{subst}
use Rattle.std.proofs.lemmas.List.{length-take-le, nil_from_length, take-append-drop, drop_all}
use Rattle.std.proofs.lemmas.List.{take_all, length-drop}
use Rattle.std.proofs.lemmas.Str.Ascii.{IsAscii-nil}
use Rattle.ascii.proofs.EndingsLemmas.{FreeUpTo-more}
use Rattle.ascii.specs.Endings.{any_text}
use Rattle.ascii.specs.Lines.{Line}
use Rattle.ascii.specs.declared.iter.spans.Endings.{Endings}
use Rattle.ascii_lines.specs.Exchanges.{SendsNothing, bytes_of, said_in, step_bytes}
use Rattle.ascii_lines.specs.LineBuffer.{WindowState}
use Rattle.ascii_lines.specs.LineReader.{Finds, Looks, StopsBy, window_at}
use Rattle.ascii_lines.specs.Replies.{IsInputOf, IsRequest, Reply, Says, Saying, Step, rejected}
use Rattle.ascii_lines.specs.Replies.{sent_out, skipped, took}
use Rattle.ascii_lines.specs.Skipping.{TakesPart, WhyNotSkipped}
use Rattle.ascii_lines.specs.Turns.{Completes, Converses, Faults, GoesTo, IsOver, IsRequested}
use Rattle.ascii_lines.specs.Turns.{IsSearchedFor, IsSound, IsTurn, IsTurnAt, Lacks, Place, Rests}
use Rattle.ascii_lines.specs.Turns.{SkipTurn, SkipsIn, SkipsTo, Stops, TalkState, TurnOutcome}
use Rattle.ascii_lines.specs.Turns.{Turns, Wants, awaited_by, is_ended, left_of, place_at, place_of}
use Rattle.ascii_lines.specs.Turns.{place_sent, place_with, supply_at, with_more}
use Rattle.ascii_lines.specs.Wanted.{MayBeLast, MustRead}
use Rattle.ascii_lines.specs.declared.conversation.Awaited.{Awaited}
use Rattle.ascii_lines.specs.declared.conversation.Awaited.TheVariants.{Input, LineEnd, Nothing}
use Rattle.ascii_lines.specs.declared.conversation.Awaited.TheVariants.{Sending}
use Rattle.ascii_lines.specs.declared.conversation.Supply.{Supply}
use Rattle.ascii_lines.specs.declared.conversation.Supply.TheVariants as supply
use Rattle.ascii_lines.specs.declared.line_reader.LineError.{LineError}
use Rattle.ascii_lines.specs.declared.line_reader.LineError.TheVariants as fault
use Rattle.ascii_lines.specs.declared.serving.Next.{Next}
use Rattle.ascii_lines.specs.declared.serving.Next.TheVariants as next
use Rattle.ascii_lines.specs.declared.serving.Stop.{Stop}
use Rattle.ascii_lines.specs.declared.serving.Stop.TheVariants as stop
use Rattle.ascii_lines.specs.declared.wanted.Content.{Content}
use Rattle.ascii_lines.specs.declared.wanted.Content.TheVariants.{Any, Text}
use Rattle.ascii_lines.specs.declared.wanted.Found.{Found}
use Rattle.ascii_lines.specs.declared.wanted.Wanted.{Wanted}
use Rattle.ascii_lines.specs.declared.wanted.Wanted.TheVariants as wanted
use Rattle.ascii_lines.specs.declared.skipping.PassEnd.TheVariants as end
use Rattle.ascii_lines.proofs.ReplyLemmas.{Says-nil, Says-trans}
use Rattle.ascii_lines.proofs.SkippingLemmas.{clean_more, kept_clean}
use Rattle.ascii_lines.proofs.WantedLemmas.{ends_front, may_none, searched_front, some_length}

pub said-append : (xs ys : List Step) → said_in (xs ++ ys) ≡ said_in xs ++ said_in ys
said-append [] ys = refl
said-append (took input said ∷ xs) ys = simp (said-append xs ys, append_assoc)
said-append (rejected error said ∷ xs) ys = simp (said-append xs ys, append_assoc)
said-append (skipped bytes ∷ xs) ys = said-append xs ys
said-append (sent_out ∷ xs) ys = said-append xs ys

pub SendsNothing-append : (xs ys : List Step) → SendsNothing xs → SendsNothing ys
    → SendsNothing (xs ++ ys)
SendsNothing-append [] ys first then = then
SendsNothing-append (sent_out ∷ xs) ys first then = absurd first
SendsNothing-append (took input said ∷ xs) ys first then = SendsNothing-append xs ys first then
SendsNothing-append (rejected error said ∷ xs) ys first then = SendsNothing-append xs ys first then
SendsNothing-append (skipped bytes ∷ xs) ys first then = SendsNothing-append xs ys first then

pub supply_ended : (is_at_end : Bool) → is_ended (supply_at is_at_end) ≡ is_at_end
supply_ended is_at_end = grind arith

-- ---- the bytes of steps

module _ {H : Type 0} (answers : H → Line → List Reply → Next → H → Type 0)
    (refuses : H → LineError → List Reply → Next → H → Type 0) (endings : Endings) (size : ℕ)
    (now : Supply) where
  -- nothing follows the end of a conversation
  pub over_ends : (a b : Place H) (steps : List Step) (why : Stop) → a.awaited ≡ Nothing why
      → Turns answers refuses endings size now a steps b → (steps ≡ []) × (b ≡ a)
  over_ends a b [] why is same = (refl, same)
  over_ends a b (step ∷ steps) why is (mid, turn, turns) = absurd (rw is at turn)

  pub turn_bytes : (a b : Place H) (step : Step) → IsTurn answers refuses endings size now a step b
      → (a.text ≡ step_bytes step ++ b.text) × (b.start ≡ a.start + length (step_bytes step))
  turn_bytes a b step turn = grind (arith, turn, append-nil)

  -- steps take bytes, and go on after them
  pub Turns-bytes : (a b : Place H) (steps : List Step)
      → Turns answers refuses endings size now a steps b
      → (a.text ≡ bytes_of steps ++ b.text) × (b.start ≡ a.start + length (bytes_of steps))
  Turns-bytes a b [] same = rw same (refl, omega arith)
  Turns-bytes a b (step ∷ steps) (mid, turn, turns) =
      grind (arith, turn_bytes, turn, append_assoc, length-append, Turns-bytes mid b steps turns)

-- ---- more bytes

not_ended : supply.Open ≢ supply.Ended
not_ended is = cc

not_failed : supply.Open ≢ supply.Failed
not_failed is = cc

faults_more : (now : Supply) (what : Wanted) (start size : ℕ) (text more : List ℕ)
    (error : LineError) → Faults supply.Open what start size text error
    → (now ≡ supply.Ended → text ++ more ≡ [] → error ≡ fault.Incomplete 0)
    → Faults now what start size (text ++ more) error
faults_more now what start size text more error is none = grind (arith, append_assoc, not_failed)

why_more : (endings : Endings) (most start : ℕ) (bytes held more : List ℕ) (error : LineError)
    → error ≢ fault.Read → WhyNotSkipped endings most start bytes held error
    → WhyNotSkipped endings most start bytes (held ++ more) error
why_more endings most start bytes held more (fault.TooLong place) other (is, long, free, all) =
    rw (← append_assoc bytes held more) (
      is,
      omega (arith, long, length-append (bytes ++ held) more),
      FreeUpTo-more endings (bytes ++ held) more most (omega (arith, long)) free,
      all,
    )
why_more endings most start bytes held more fault.TooFar other (far, free, all) =
    rw (← append_assoc bytes held more) (
      omega (arith, far, length-append (bytes ++ held) more),
      FreeUpTo-more endings (bytes ++ held) more (2 ^ 64 - 1 - start) (omega (arith, far)) free,
      all,
    )
why_more endings most start bytes held more fault.Read other why = absurd (other refl)
why_more endings most start bytes held more _ other why = absurd why

skips_more : (now : Supply) (endings : Endings) (then : Next) (start : ℕ)
    (bytes left more : List ℕ) (after : Awaited)
    → SkipsTo supply.Open endings then start bytes left after
    → SkipsTo now endings then start bytes (left ++ more) after
skips_more now endings then start bytes left more after skips = elim skips [
  | inl ends ↦ inl ends
  | inr (inl on) ↦ inr (inl (on.0, on.1, clean_more endings bytes left more on.2))
  | inr (inr (inl end)) ↦ absurd (not_ended end.1)
  | inr (inr (inr why)) ↦ grind (arith, not_failed, why_more)
]

module _ {H : Type 0} (answers : H → Line → List Reply → Next → H → Type 0)
    (refuses : H → LineError → List Reply → Next → H → Type 0) (endings : Endings) (size : ℕ)
    (now : Supply) where
  -- steps, and then more steps
  pub Turns-append : (a b c : Place H) (xs ys : List Step)
      → Turns answers refuses endings size now a xs b
      → Turns answers refuses endings size now b ys c
      → Turns answers refuses endings size now a (xs ++ ys) c
  Turns-append a b c [] ys first then = rw first at then
  Turns-append a b c (x ∷ xs) ys first then =
      (first.0, first.1, Turns-append first.0 b c xs ys first.2 then)

  -- the bytes that follow change no step, nor does the end of the input if the conversation goes on
  turn-more : (a b : Place H) (step : Step) (more : List ℕ)
      → (now ≡ supply.Ended → ¬ (IsOver b.awaited))
      → IsTurn answers refuses endings size supply.Open a step b
      → IsTurn answers refuses endings size now (with_more a more) step (with_more b more)
  turn-more a b step more apart turn = go a.awaited step turn
    where
      shown : (what : Wanted) (asked then : Next) (error : LineError) → Wants endings asked what
          → GoesTo asked error then b.awaited → Faults supply.Open what a.start size a.text error
          → now ≡ supply.Ended → a.text ++ more ≡ [] → error ≡ fault.Incomplete 0
      shown what asked then error wants goes (seen, others, is, why, read, some) ended none =
          let empty : seen ≡ [] = nil_from_length seen (omega (
            arith,
            ap length none,
            length-append a.text more,
            ap length is,
            length-append seen others,
          )) in
          grind arith

      stops : (asked : Next) (why : Stop) → Stops supply.Open asked a.text why
          → Stops now asked (a.text ++ more) why
      stops asked why t = grind arith

      go : (awaited : Awaited) (step : Step)
          → IsTurnAt answers refuses endings size supply.Open awaited a step b
          → IsTurnAt answers refuses endings size now awaited (with_more a more) step
          (with_more b more)
      go (Input asked) (took input said) t = grind (arith, not_ended, append_assoc)
      go (Input asked) (rejected error said) t =
          grind (arith, faults_more, shown t.1 asked t.0 error t.4 t.2 t.6)
      go (Input asked) (skipped bytes) t = grind (arith, stops)
      go (LineEnd then) (skipped bytes) t = (
        t.0,
        simp (t.1, append_assoc),
        t.2,
        elim t.3 [
          | inl skips ↦ inl (skips_more now (any_text endings) then a.start bytes b.text more
              b.awaited skips)
          | inr stop ↦ inr stop
        ],
      )
      go Sending sent_out same = ap (λ (p : Place H). with_more p more) same
      go Sending (skipped bytes) (none, same) = (none, ap (λ (p : Place H). with_more p more) same)
      go _ _ t = absurd t

  pub Turns-more : (a b : Place H) (steps : List Step) (more : List ℕ)
      → (now ≡ supply.Ended → ¬ (IsOver b.awaited))
      → Turns answers refuses endings size supply.Open a steps b
      → Turns answers refuses endings size now (with_more a more) steps (with_more b more)
  Turns-more a b [] more apart same = ap (λ (p : Place H). with_more p more) same
  Turns-more a b (x ∷ steps) more apart (mid, turn, turns) = (
    with_more mid more,
    turn-more a mid x more
        (λ ended over. apart ended (rw (over_ends answers refuses endings size supply.Open mid b
        steps over.0 over.1 turns).1 over)) turn,
    Turns-more mid b steps more apart turns,
  )

-- ---- what is awaited

sound_by : (now : Supply) (then : Next) (text : List ℕ) → IsRequest then
    → IsSound now (awaited_by then) text
sound_by now then text request = grind arith

-- a conversation is over for one reason
pub over_by : {awaited : Awaited} (a b : Stop) → awaited ≡ Nothing a → awaited ≡ Nothing b → a ≡ b
over_by a b is same = cc

-- what is awaited is what was asked for
lacks_wants : (endings : Endings) (size : ℕ) (asked : Next) (start : ℕ) (text : List ℕ)
    → Lacks endings size (Input asked) start text
    → (what : Wanted) × Wants endings asked what × MustRead what start size text
lacks_wants endings size next.Line start text lacks = (wanted.Line endings Text, refl, lacks)
lacks_wants endings size (next.Part n) start text lacks = (wanted.Part n Text, refl, lacks)
lacks_wants endings size (next.Bytes n) start text lacks = (wanted.Part n Any, refl, lacks)
lacks_wants endings size next.LineOnceSent start text lacks = absurd lacks
lacks_wants endings size next.Close start text lacks = absurd lacks

-- ---- step after step

module _ {H K : Type 0} (answers : H → Line → List Reply → Next → H → Type 0)
    (refuses : H → LineError → List Reply → Next → H → Type 0) (endings : Endings) (size : ℕ)
    (now : Supply) (old : Place H) (out : Saying K) where
  -- steps were taken so far
  pub record Going (new : Place H) (said : Saying K) : Type 0 where
    pub steps : List Step
    pub turns : Turns answers refuses endings size now old steps new
    pub says : Says out (said_in steps) said
    pub unsent : SendsNothing steps
    pub request : IsRequested new.awaited
    pub used : new.awaited ≡ Nothing stop.EndOfInput → new.text ≡ []
    pub ended : new.awaited ≡ Nothing stop.EndOfInput
        → (old.awaited ≡ Nothing stop.EndOfInput) ⊎ (now ≡ supply.Ended)
    pub failed : new.awaited ≡ Nothing stop.Writer → old.awaited ≡ Nothing stop.Writer

  pub Going-first : IsRequested old.awaited
      → (old.awaited ≡ Nothing stop.EndOfInput → old.text ≡ []) → Going old out
  Going-first request used = grind (arith, Says-nil)

  module _ (mid : Place H) (said : Saying K) (going : Going mid said) where
    -- one step more
    steps-more : (new : Place H) (after : Saying K) (step : Step)
        → IsTurn answers refuses endings size now mid step new
        → Says said (said_in (step ∷ [])) after → SendsNothing (step ∷ [])
        → (steps : List Step) × Turns answers refuses endings size now old steps new
        × Says out (said_in steps) after × SendsNothing steps
    steps-more new after step turn says unsent = (
      going.steps ++ step ∷ [],
      Turns-append answers refuses endings size now old mid new going.steps (step ∷ [])
          going.turns (new, turn, refl),
      rw (said-append going.steps (step ∷ []))
          (Says-trans out said after (said_in going.steps) (said_in (step ∷ [])) going.says says),
      SendsNothing-append going.steps (step ∷ []) going.unsent unsent,
    )

    -- one step more, after which the conversation is over
    then_over : (new : Place H) (after : Saying K) (step : Step)
        → IsTurn answers refuses endings size now mid step new
        → Says said (said_in (step ∷ [])) after → SendsNothing (step ∷ []) → (why : Stop)
        → new.awaited ≡ Nothing why → why ≢ stop.EndOfInput
        → (why ≡ stop.Writer → after.state.buffer.is_broken ≡ true)
        → Converses answers refuses endings size now old out new after
    then_over new after step turn says unsent why is other broken =
        let more = steps-more new after step turn says unsent in
        grind (arith, over_by)

    -- the replies cannot be written
    pub then_breaks : ¬ (IsOver mid.awaited) → said.state.buffer.is_broken ≡ true
        → Converses answers refuses endings size now old out
        (record mid { awaited = Nothing stop.Writer }) said
    then_breaks apart broken = then_over (record mid { awaited = Nothing stop.Writer }) said
        (skipped []) (turn mid.awaited apart) (Says-nil said) tt stop.Writer refl (λ is. cc)
        (λ is. broken)
      where
        turn : (awaited : Awaited) → ¬ (IsOver awaited)
            → IsTurnAt answers refuses endings size now awaited mid (skipped [])
            (record mid { awaited = Nothing stop.Writer })
        turn awaited apart = grind arith

    pub then_goes : (kind : Endings) (room : ℕ) → kind ≡ endings → room ≡ size → (new : Place H)
        (after : Saying K)
        → TurnOutcome answers refuses kind room now mid said true new after → Going new after
    then_goes kind room same sized new after turn =
        let t : TurnOutcome answers refuses endings size now mid said true new after =
        rw (same, sized) at turn in
        let more = steps-more new after t.0 t.1 t.2 t.3 in
        grind arith

-- a conversation is fed with some bytes, and then with more: the steps are those of both together
pub feed_joins : {H K : Type 0} (answers : H → Line → List Reply → Next → H → Type 0)
    (refuses : H → LineError → List Reply → Next → H → Type 0) (a b c : TalkState)
    (x y z : H) (out mid said : Saying K) (first more : List ℕ) → b.endings ≡ a.endings
    → b.size ≡ a.size
    → Converses answers refuses a.endings a.size supply.Open (place_with a x first) out
    (place_of b y) mid
    → Converses answers refuses b.endings b.size supply.Open (place_with b y more) mid
    (place_of c z) said
    → (steps : List Step) × Turns answers refuses a.endings a.size supply.Open
    (place_with a x (first ++ more)) steps (place_of c z) × Says out (said_in steps) said
feed_joins answers refuses a b c x y z out mid said first more same sized one two = (
  one.steps ++ two.steps,
  rw (← append_assoc a.held first more)
      (Turns-append answers refuses a.endings a.size supply.Open
      (with_more (place_with a x first) more) (place_with b y more) (place_of c z) one.steps
      two.steps
      (Turns-more answers refuses a.endings a.size supply.Open (place_with a x first)
      (place_of b y) one.steps more (λ is. absurd (not_ended is)) one.turns)
      (rw (same, sized) at two.turns)),
  rw (said-append one.steps two.steps)
      (Says-trans out mid said (said_in one.steps) (said_in two.steps) one.says two.says),
)

-- a conversation is fed with some bytes, and then its replies were sent, which was awaited: the steps
-- are those of both, with the sending between them
pub sent_joins : {H K : Type 0} (answers : H → Line → List Reply → Next → H → Type 0)
    (refuses : H → LineError → List Reply → Next → H → Type 0) (a b c : TalkState)
    (x y z : H) (out mid between said : Saying K) (first : List ℕ) → b.endings ≡ a.endings
    → b.size ≡ a.size → b.is_at_end ≡ false → b.awaited ≡ Sending
    → Converses answers refuses a.endings a.size supply.Open (place_with a x first) out
    (place_of b y) mid
    → Converses answers refuses b.endings b.size (supply_at b.is_at_end) (place_sent b y) between
    (place_of c z) said
    → (steps : List Step) × Turns answers refuses a.endings a.size supply.Open
    (place_with a x first) steps (place_of c z)
sent_joins answers refuses a b c x y z out mid between said first same sized going is one two = (
  one.steps ++ sent_out ∷ two.steps,
  Turns-append answers refuses a.endings a.size supply.Open (place_with a x first) (place_of b y)
      (place_of c z) one.steps (sent_out ∷ two.steps) one.turns (
        place_of (record b { awaited = Input next.Line }) y,
        rw is refl,
        rw (is, going, same, sized) at two.turns,
      ),
)

module _ {H K : Type 0} (answers : H → Line → List Reply → Next → H → Type 0)
    (refuses : H → LineError → List Reply → Next → H → Type 0) (endings : Endings) (size : ℕ)
    (handler : H) (start : ℕ) (text : List ℕ) (out : Saying K) where
  -- a conversation that is over takes no bytes, and no step
  pub over_rests : (now : Supply) (awaited : Awaited) → IsOver awaited
      → Rests endings size awaited start text
      → Converses answers refuses endings size now (place_at awaited handler start text) out
      (place_at awaited handler start text) out
  over_rests now awaited over rests = grind (arith, Says-nil)

  -- one that awaits that the replies are sent takes no step, unless the device has failed
  pub sending_rests : (now : Supply) (awaited : Awaited) → awaited ≡ Sending
      → out.state.buffer.is_broken ≡ false
      → Converses answers refuses endings size now (place_at awaited handler start text) out
      (place_at awaited handler start text) out
  sending_rests now awaited is whole = grind (arith, Says-nil)

  -- ---- a read that failed

  -- the handler is told
  pub fail_asked : (last : H) (said : Saying K) (asked then : Next) (gave : List Reply)
      → IsRequested (Input asked) → Lacks endings size (Input asked) start text
      → Says out gave said → refuses handler fault.Read gave then last → IsRequest then
      → Converses answers refuses endings size supply.Failed
      (place_at (Input asked) handler start text) out
      (place_at (Nothing (stop.Reader fault.Read)) last start text) said
  fail_asked last said asked then gave asks lacks says tells request =
      let (what, wants, must) = lacks_wants endings size asked start text lacks in
      let faults : Faults supply.Failed what start size text fault.Read =
      (text, [], sym (append-nil text), must, λ _. (refl, refl), λ is. cc) in
      let old = place_at (Input asked) handler start text in
      then_over _ _ _ _ _ _ _ _ _
      (Going-first answers refuses endings size supply.Failed old out asks (λ is. cc))
      (place_at (Nothing (stop.Reader fault.Read)) last start text) said (rejected fault.Read gave)
      (then, what, inr (refl, λ _. inl tt), request, wants, tells, faults, refl, refl)
      (rw (append-nil gave) says) tt (stop.Reader fault.Read) refl (λ is. cc) (λ is. cc)

  -- the rest of a line that was rejected is not read over
  pub fail_line : (then : Next) → IsRequested (LineEnd then)
      → Lacks endings size (LineEnd then) start text
      → Converses answers refuses endings size supply.Failed
      (place_at (LineEnd then) handler start text) out
      (place_at (Nothing (stop.Reader fault.Read)) handler start text) out
  fail_line then asks lacks =
      let old = place_at (LineEnd then) handler start text in
      then_over _ _ _ _ _ _ _ _ _
      (Going-first answers refuses endings size supply.Failed old out asks (λ is. cc))
      (place_at (Nothing (stop.Reader fault.Read)) handler start text) out (skipped []) (
        refl,
        refl,
        omega arith,
        inl (inr (inr (inr (fault.Read, refl, λ _. refl, (lacks.0, lacks.1))))),
      ) (Says-nil out) tt (stop.Reader fault.Read) refl (λ is. cc) (λ is. cc)

-- ---- one step

-- what is asked for is a part, if it is not a line
part_asked : (endings : Endings) (asked : Next) → asked ≢ next.Line → IsRequested (Input asked)
    → (n : ℕ) × (content : Content) × (0 < n) × Wants endings asked (wanted.Part n content)
part_asked endings next.Line other asks = absurd (other refl)
part_asked endings (next.Part n) other asks = (n, Text, asks, refl)
part_asked endings (next.Bytes n) other asks = (n, Any, asks, refl)
part_asked endings next.LineOnceSent other asks = absurd asks
part_asked endings next.Close other asks = absurd asks

module _ {H K : Type 0} (answers : H → Line → List Reply → Next → H → Type 0)
    (refuses : H → LineError → List Reply → Next → H → Type 0) (endings : Endings)
    (buffer : WindowState) (ended : Bool) (handler last : H) (start : ℕ) (out said : Saying K)
  where
    abbrev now : Supply
    now = supply_at ended

    abbrev text : List ℕ
    text = buffer.held

    -- where a conversation is that awaits this
    abbrev here : Awaited → Place H
    here awaited = place_at awaited handler start text

    pub turn_takes : (asked : Next) (what : Wanted) (found : Found) (input : Line)
        (gave : List Reply) (then : Next) → Wants endings asked what → IsRequested (Input asked)
        → (ended ≡ true → text ≢ []) → Finds what start (window_at ended buffer) found
        → IsInputOf what (take found.count text) input → Says out gave said
        → answers handler input gave then last → IsRequest then
        → TurnOutcome answers refuses endings buffer.size now (here (Input asked)) out true
        (place_at (awaited_by then) last found.end (drop found.count text)) said
    turn_takes asked what found input gave then wants asks some finds is says tells request =
        let n = found.count in
        let long = length-take-le n text finds.ends.within in
        let stops = go found.is_last finds.ends.stops finds.last in
        let place = finds.place ∙ ap (λ k. start + k) (sym long) in
        let parts = sym (take-append-drop n text) in (
          took input gave,
          (
            then,
            what,
            take n text,
            refl,
            request,
            wants,
            is,
            stops.1,
            tells,
            parts,
            place,
            finds.ends.may,
          ),
          rw (append-nil gave) says,
          tt,
          sound_by now then (drop n text) request,
          grind (arith, length-drop),
        )
      where
        go : (is_last : Bool) → StopsBy what (window_at ended buffer) found.count is_last
            → MayBeLast what is_last → (0 < found.count)
            × Completes now what (take found.count text) (drop found.count text)
        go is_last ends last = grind (arith, length-take-le, ends_front, some_length, drop_all)

    pub turn_faults : (asked : Next) (what : Wanted) (error : LineError) (gave : List Reply)
        (then : Next) (after : Awaited) → (ended ≡ true → text ≢ []) → Wants endings asked what
        → Looks what start (window_at ended buffer) (Err error) → Says out gave said
        → refuses handler error gave then last → IsRequest then → GoesTo asked error then after
        → TurnOutcome answers refuses endings buffer.size now (here (Input asked)) out true
        (place_at after last start text) said
    turn_faults asked what error gave then after some wants looks says tells request goes =
        let faults : Faults now what start buffer.size text error =
        grind (arith, append-nil text, supply_ended ended) in
        let sound : IsSound now after text × (left_of after text < 2 * length text + 2) =
        grind arith in (
          rejected error gave,
          (then, what, goes, request, wants, tells, faults, refl, refl),
          rw (append-nil gave) says,
          tt,
          sound.0,
          sound.1,
        )

    -- there are no more lines
    pub turn_ends : (asked : Next) → asked ≡ next.Line → now ≡ supply.Ended → text ≡ []
        → TurnOutcome answers refuses endings buffer.size now (here (Input asked)) out true
        (here (Nothing stop.EndOfInput)) out
    turn_ends asked line ended none = (
      skipped [],
      (stop.EndOfInput, refl, (line, ended, none), refl),
      Says-nil out,
      tt,
      (ended, none),
      omega arith,
    )

    -- there is no part
    pub turn_lacks : (asked : Next) (gave : List Reply) (then : Next) → asked ≢ next.Line
        → IsRequested (Input asked) → now ≡ supply.Ended → text ≡ [] → Says out gave said
        → refuses handler (fault.Incomplete 0) gave then last → IsRequest then
        → TurnOutcome answers refuses endings buffer.size now (here (Input asked)) out true
        (place_at (Nothing (stop.Reader (fault.Incomplete 0))) last start text) said
    turn_lacks asked gave then other asks ended none says tells request =
        let (n, content, some, wants) = part_asked endings asked other asks in
        let what = wanted.Part n content in
        let error = fault.Incomplete 0 in
        let faults : Faults now what start buffer.size text error =
        grind (arith, append-nil, may_none) in (
          rejected error gave,
          (then, what, inr (refl, λ _. inl tt), request, wants, tells, faults, refl, refl),
          rw (append-nil gave) says,
          tt,
          tt,
          omega arith,
        )

    pub turn_skips : (result : Bool) (then : Next) (after : Awaited) (place : ℕ) (left : List ℕ)
        → IsRequest then
        → SkipTurn now (any_text endings) then start text result after place left
        → TurnOutcome answers refuses endings buffer.size now (here (LineEnd then)) out result
        (place_at after handler place left) out
    turn_skips true then after place left request t =
        let low : length text ≡ length t.0 + length left = ap length t.1 ∙ length-append t.0 left in
        let sound : IsSound now after left × (left_of after left < 2 * length text + 1) =
        grind (arith, sound_by) in
        (skipped t.0, (refl, t.1, t.2, inl t.4), Says-nil out, tt, sound.0, sound.1)
    turn_skips false then after place left request t = grind arith

pub rests_lacks : (endings : Endings) (size : ℕ) (awaited : Awaited) (start : ℕ) (held : List ℕ)
    → Rests endings size awaited start held → ¬ (IsOver awaited) → awaited ≢ Sending
    → Lacks endings size awaited start held
rests_lacks endings size awaited start held rests apart waits = grind arith

-- a conversation that rests has searched all bytes that it holds
pub rests_searched : (endings : Endings) (size : ℕ) (awaited : Awaited) (start : ℕ)
    (held : List ℕ) (n : ℕ) → Rests endings size awaited start held → ¬ (IsOver awaited)
    → n ≡ length held → IsSearchedFor endings size awaited start held n
rests_searched endings size awaited start held n rests apart all =
    grind (arith, take_all, rests_lacks)

-- ---- bytes of a line that was rejected

module _ (now : Supply) (endings : Endings) (then : Next) (start : ℕ) (text : List ℕ) (n : ℕ)
    (within : n ≤ length text) where
  pub skips_end : (after : Awaited) → after ≡ awaited_by then
      → TakesPart endings text (2 ^ 64 - 1 - start) n (Some end.Ending)
      → SkipsTo now endings then start (take n text) (drop n text) after
  skips_end after is (low, stop) = inl (
    is,
    rw (length-take-le n text within)
        (ends_front text n n (omega arith) (wanted.Line endings Text) stop),
  )

  -- the line goes on
  pub skips_on : TakesPart endings text (2 ^ 64 - 1 - start) n None
      → SkipsTo now endings then start (take n text) (drop n text) (LineEnd then)
  skips_on part = inr (inl (
    refl,
    rw (length-take-le n text within)
        (searched_front text n n (omega arith) (wanted.Line endings Text)
        (λ k low. part.2 k (omega (arith, low, within)))),
    kept_clean endings [] text n within (λ cr_lf cr. absurd (omega (arith, cr))) part.3,
  ))

pub skip_taken : (now : Supply) (endings : Endings) (then : Next) (start : ℕ) (text left : List ℕ)
    (n : ℕ) (after : Awaited)
    → SkipsIn now endings then start text (Some (record { 0 = n; 1 = after }))
    → left ≡ drop n text → SkipTurn now endings then start text true after (start + n) left
skip_taken now endings then start text left n after skips is =
    grind (arith, length-take-le, take-append-drop)
