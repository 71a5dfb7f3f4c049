-- The messages that a session delivers, step by step.
use Rattle.std.proofs.Common.{◌≡◌, ◌≢◌, ◌∙◌, ℕ, None, Option, Some, List, [], ◌∷◌, ◌++◌, Err, Ok, Result}
use Rattle.std.proofs.Common.{ap, append-nil, inl, inr, refl, subst, sym}
use Rattle.std.proofs.Common.{◌-◌, ◌≤◌, Bool, arith, false, length-append, true}
use Rattle.std.proofs.lemmas.Bool.{false≢true}
use Rattle.std.proofs.lemmas.List.{map-append}
use Rattle.std.proofs.lemmas.Grind.{flat_map-append}
use Rattle.std.specs.Prelude.{MatchResult, codes}
use Rattle.ascii.specs.Lines.{Line}
use Rattle.ascii.specs.declared.iter.spans.Endings.{Endings}
use Rattle.ascii_devices.specs.declared.log.Event.{Event}
use Rattle.ascii_lines.proofs.SendingLemmas.{AtEachSending-after, sends_first}
use Rattle.ascii_lines.specs.Replies as serve
use Rattle.ascii_lines.specs.Replies.{Step, rejected, sent_out, skipped, took}
use Rattle.ascii_lines.specs.Serve.{AreSentFirst, AtEachSending, ChannelState}
use Rattle.ascii_lines.specs.Turns.{IsTurnAt, Place, Turns, awaited_by}
use Rattle.ascii_lines.specs.declared.conversation.Awaited.{Awaited}
use Rattle.ascii_lines.specs.declared.conversation.Awaited.TheVariants.{Input, LineEnd}
use Rattle.ascii_lines.specs.declared.conversation.Awaited.TheVariants.{Sending}
use Rattle.ascii_lines.specs.declared.conversation.Supply.{Supply}
use Rattle.ascii_lines.specs.declared.line_reader.LineError.{LineError}
use Rattle.ascii_lines.specs.declared.line_reader.LineError.TheVariants as error
use Rattle.example_smtp.proofs.FolderLemmas.{in_none, in_then}
use Rattle.example_smtp.specs.Commands.{ReadsCommand, Says}
use Rattle.example_smtp.specs.Deliveries.{Addresses, AreExchanges, Brings, Delivers, Exchange}
use Rattle.example_smtp.specs.Deliveries.{IsText, Sent}
use Rattle.example_smtp.specs.Deliveries.{begun_after, ends, part_of}
use Rattle.example_smtp.specs.Folder.{StoresIn}
use Rattle.example_smtp.specs.Mail.{Keeps, Mail, State, file_of, idle, most_count, no_mail}
use Rattle.example_smtp.specs.Mail.{text_of_lines, unstuffed}
use Rattle.example_smtp.specs.Session.{Counts, CountsBy, is_error}
use Rattle.example_smtp.specs.Session.{AnswersAt, AnswersCommand, AnswersInput, AnswersLine, Ends}
use Rattle.example_smtp.specs.Session.{Follows, RefusesAt, TakesLine, after, next_after}
use Rattle.example_smtp.specs.Session.{first_fault, refusal_of, reply_of_fault, reply_to}
use Rattle.example_smtp.specs.Session.{envelope_after, reset_stage, session_answers}
use Rattle.example_smtp.specs.Session.{session_refuses, spoiled}
use Rattle.example_smtp.specs.declared.commands.Command.{Command}
use Rattle.example_smtp.specs.declared.commands.Command.TheVariants.{AddRecipient, BeginLines, Extend}
use Rattle.example_smtp.specs.declared.commands.Command.TheVariants.{Introduce, Leave, Reset}
use Rattle.example_smtp.specs.declared.commands.Command.TheVariants.{SetSender, Verify}
use Rattle.example_smtp.specs.declared.commands.Command.TheVariants as command
use Rattle.example_smtp.specs.declared.commands.Reply.{Reply}
use Rattle.example_smtp.specs.declared.commands.Reply.TheVariants as reply
use Rattle.example_smtp.specs.declared.session.Fault.{Fault}
use Rattle.example_smtp.specs.declared.session.Fault.TheVariants.{NoMemory, OtherBytes, Rejected, TooLarge}
use Rattle.example_smtp.specs.declared.session.Stage.{Stage}
use Rattle.example_smtp.specs.declared.session.Stage.TheVariants.{Greeting, Lines, Ready}
use Rattle.example_smtp.specs.declared.session.Stage.TheVariants.{Recipients, Sender}

-- ---- mails that are stored and counted

keeps_none : (state : State) → Keeps state [] state
keeps_none state = (in_none state.folder, λ fits. grind arith)

keeps_then : (old mid new : State) (first then : List (List ℕ)) → Keeps old first mid
    → Keeps mid then new → Keeps old (first ++ then) new
keeps_then old mid new first then before after = (
  in_then old.folder mid.folder new.folder first then before.0 after.0,
  λ fits.
      let is = before.1 fits in
      let small : mid.count ≤ most_count = grind arith in
      let last = after.1 small in
      grind (arith, length-append first then),
)

-- ---- one exchange

-- the session is in the lines of a message with this envelope, of which these were sent, or in none
abbrev pub Inside : Option Sent → Mail → State → Type 0
Inside None envelope state = (state.stage ≢ Lines) × (state.draft ≡ envelope)
Inside (Some sent) envelope state = (state.stage ≡ Lines)
    × (state.draft ≡ record envelope { text = state.draft.text })
    × (state.fault ≡ None → IsText sent state.draft.text)

-- an exchange delivers messages, which the folder stores
pub record Moves (old : State) (begun : Option Sent) (envelope : Mail) (line : Option (List ℕ))
    (said : Option Reply) (new : State) : Type 0 where
  pub mails : List (List ℕ)
  pub after : Mail
  pub brings : Brings (part_of said) begun envelope line mails
  pub addresses : Addresses begun envelope line said after
  pub stored : Keeps old mails new
  pub inside : Inside (begun_after (part_of said) begun line) after new

module _ (old new : State) (begun : Option Sent) (envelope : Mail) (line : Option (List ℕ)) where
  -- a message is dropped, or there was none
  quiet : (reply : Reply) → part_of (Some reply) ≡ ends
      → Addresses begun envelope line (Some reply) new.draft → new.stage ≢ Lines → Keeps old [] new
      → Moves old begun envelope line (Some reply) new
  quiet reply part addresses apart stored = record {
    mails = [];
    after = new.draft;
    brings = subst (λ p. Brings p begun envelope line []) (sym part) refl;
    addresses = addresses;
    stored = stored;
    inside = subst (λ p. Inside (begun_after p begun line) new.draft new) (sym part) (apart, refl);
  }

module _ (old new : State) (envelope : Mail) (line : Option (List ℕ))
    (outside : Inside None envelope old) (same : new ≡ old) where
  -- nothing changes
  stays : (reply : Reply) → part_of (Some reply) ≡ ends
      → Addresses None envelope line (Some reply) envelope
      → Moves old None envelope line (Some reply) new
  stays reply part addresses = subst (Moves old None envelope line (Some reply)) (sym same)
      (quiet old old None envelope line reply part
      (subst (Addresses None envelope line (Some reply)) (sym outside.1) addresses) outside.0
      (keeps_none old))

  -- the same of a reply that is known
  stays_by : (said reply other : Reply) → said ≡ reply → reply ≡ other
      → part_of (Some other) ≡ ends → Addresses None envelope line (Some other) envelope
      → Moves old None envelope line (Some said) new
  stays_by said reply other is known part addresses =
      subst (λ r. Moves old None envelope line (Some r) new) (sym (is ∙ known))
      (stays other part addresses)

-- a reset leaves the session outside a message
reset_apart : (stage : Stage) → reset_stage stage ≢ Lines
reset_apart Greeting is = cc
reset_apart Ready is = cc
reset_apart Sender is = cc
reset_apart Recipients is = cc
reset_apart Lines is = cc

-- an error of the input is outside a message, and leaves the envelope
refusal_part : (error : LineError) → part_of (Some (refusal_of error)) ≡ ends
refusal_part (error.NotAscii place) = refl
refusal_part (error.LoneBreak place) = refl
refusal_part (error.TooLong start) = refl
refusal_part error.TooFar = refl
refusal_part (error.Incomplete count) = refl
refusal_part error.Read = refl

refusal_addresses : (error : LineError) (envelope : Mail)
    → Addresses None envelope None (Some (refusal_of error)) envelope
refusal_addresses (error.NotAscii place) envelope = refl
refusal_addresses (error.LoneBreak place) envelope = refl
refusal_addresses (error.TooLong start) envelope = refl
refusal_addresses error.TooFar envelope = refl
refusal_addresses (error.Incomplete count) envelope = refl
refusal_addresses error.Read envelope = refl

-- a message with a fault is dropped
fault_part : (fault : Fault) → part_of (Some (reply_of_fault fault)) ≡ ends
fault_part Rejected = refl
fault_part OtherBytes = refl
fault_part TooLarge = refl
fault_part NoMemory = refl

module _ (old new : State) (envelope : Mail) (line : List ℕ) (outside : Inside None envelope old)
  where
    -- a command that begins no message
    carried : (command : Command) → new ≡ after old command
        → part_of (Some (reply_to command)) ≡ ends
        → Addresses None envelope (Some line) (Some (reply_to command)) (after old command).draft
        → (after old command).stage ≢ Lines → Keeps old [] (after old command)
        → Moves old None envelope (Some line) (Some (reply_to command)) new
    carried command same part addresses stage kept =
        subst (Moves old None envelope (Some line) (Some (reply_to command))) (sym same)
        (quiet old (after old command) None envelope (Some line) (reply_to command) part addresses
        stage kept)

    -- the envelope is that of the session
    here : (command : Command) → envelope_after old.draft command ≡ envelope_after envelope command
    here command = ap (λ mail. envelope_after mail command) outside.1

    -- a command that is carried out
    followed : (command : Command) → Says line command → new ≡ after old command
        → Moves old None envelope (Some line) (Some (reply_to command)) new
    followed BeginLines says same =
        subst (Moves old None envelope (Some line) (Some (reply_to BeginLines))) (sym same) (record {
          mails = [];
          after = envelope;
          brings = refl;
          addresses = refl;
          stored = keeps_none old;
          inside = (
            refl,
            ap (λ (mail : Mail). record mail { text = [] }) outside.1,
            λ whole. ([], refl, refl),
          );
        })
    followed (Introduce domain) says same = carried (Introduce domain) same refl
        (Introduce domain, says, refl) (λ l. cc) (keeps_none old)
    followed (Extend domain) says same = carried (Extend domain) same refl
        (Extend domain, says, refl) (λ l. cc) (keeps_none old)
    followed (SetSender address) says same = carried (SetSender address) same refl
        (SetSender address, says, here (SetSender address)) (λ l. cc) (keeps_none old)
    followed (AddRecipient address) says same = carried (AddRecipient address) same refl
        (AddRecipient address, says, here (AddRecipient address)) (λ l. cc) (keeps_none old)
    followed Reset says same = carried Reset same refl (Reset, says, here Reset)
        (reset_apart old.stage) (keeps_none old)
    followed (Verify mailbox) says same =
        carried (Verify mailbox) same refl outside.1 outside.0 (keeps_none old)
    followed command.Reply says same = carried command.Reply same refl
        (command.Reply, says, outside.1) outside.0 (keeps_none old)
    followed Leave says same = carried Leave same refl outside.1 outside.0 (keeps_none old)

    -- a command, or why there is none
    by_outcome : (reply : Reply) (outcome : Result Command Reply) → ReadsCommand line outcome
        → MatchResult outcome (λ command. Follows old command reply new)
        (λ fault. (reply ≡ fault) × (new ≡ old))
        → Moves old None envelope (Some line) (Some reply) new
    by_outcome reply (Ok command) says follows = elim follows [
      | inl done ↦ subst (λ r. Moves old None envelope (Some line) (Some r) new) (sym done.2)
          (followed command says done.3)
      | inr (inl early, same) ↦
          stays_by old new envelope (Some line) outside same reply reply _ refl early.1 refl refl
      | inr (inr (inl late), same) ↦
          stays_by old new envelope (Some line) outside same reply reply _ refl late.2 refl refl
      | inr (inr (inr memory), same) ↦
          stays_by old new envelope (Some line) outside same reply reply _ refl memory refl refl
    ]
    by_outcome reply (Err fault) faulty (said_it, same) = elim faulty [
      | inl unknown ↦
          stays_by old new envelope (Some line) outside same reply fault _ said_it unknown.0 refl refl
      | inr bad ↦ elim bad.6 [
        | inl large ↦
            stays_by old new envelope (Some line) outside same reply fault _ said_it large.1 refl refl
        | inr (inl parameter) ↦ stays_by old new envelope (Some line) outside same reply fault _
            said_it parameter.2 refl refl
        | inr (inr argument) ↦ stays_by old new envelope (Some line) outside same reply fault _
            said_it argument.2 refl refl
      ]
    ]

    -- a line outside a message
    command_moves : (reply : Reply) → AnswersCommand old line reply new
        → Moves old None envelope (Some line) (Some reply) new
    command_moves reply answers = elim answers [
      | inl stranger ↦ stays_by old new envelope (Some line) outside stranger.2 reply reply _ refl
          stranger.1 refl refl
      | inr verb ↦ by_outcome reply verb.1.0 verb.1.1 verb.1.2
    ]

-- ---- the lines of a message

-- the text of a line
abbrev text_in : Option (List ℕ) → List ℕ
text_in None = []
text_in (Some text) = text

-- a line more in a text
text_more : (sent : Sent) (text line : List ℕ) → IsText sent text
    → IsText (sent ++ Some line ∷ []) (text ++ (unstuffed line ++ 13 ∷ 10 ∷ []))
text_more sent text line (lines, are, is) = (
  lines ++ line ∷ [],
  ap (λ xs. xs ++ Some line ∷ []) are ∙ sym (map-append Some lines (line ∷ [])),
  ap (λ xs. xs ++ (unstuffed line ++ 13 ∷ 10 ∷ [])) is
      ∙ sym (flat_map-append (λ (l : List ℕ). unstuffed l ++ 13 ∷ 10 ∷ []) lines (line ∷ [])
      ∙ ap (λ xs. text_of_lines lines ++ xs) (append-nil (unstuffed line ++ 13 ∷ 10 ∷ []))),
)

module _ (old new : State) (sent : Sent) (envelope : Mail)
    (inside : Inside (Some sent) envelope old) where
  -- a line that is not answered
  goes_on : (line : Option (List ℕ)) → line ≢ Some (codes ".") → Keeps old [] new
      → new.stage ≡ old.stage → new.draft ≡ record old.draft { text = new.draft.text }
      → (new.fault ≡ None → IsText (sent ++ line ∷ []) new.draft.text)
      → Moves old (Some sent) envelope line None new
  goes_on line other stored stage draft kept = record {
    mails = [];
    after = envelope;
    brings = (refl, other);
    addresses = refl;
    stored = stored;
    inside = (
      stage ∙ inside.0,
      draft ∙ ap (λ (mail : Mail). record mail { text = new.draft.text }) inside.1,
      kept,
    );
  }

  -- a message that is dropped
  dropped : (reply : Reply) → part_of (Some reply) ≡ ends → new.stage ≡ Ready
      → new.draft ≡ no_mail envelope.client → Keeps old [] new
      → Moves old (Some sent) envelope (Some (codes ".")) (Some reply) new
  dropped reply part stage none stored = quiet old new (Some sent) envelope (Some (codes "."))
      reply part none (λ l. let e : Ready ≡ Lines = sym stage ∙ l in cc) stored

  -- the client is that of the envelope
  same_client : no_mail old.draft.client ≡ no_mail envelope.client
  same_client = ap (λ (mail : Mail). no_mail mail.client) inside.1

  -- a dot
  ended : (said : Reply) (fault : Option Fault) → old.fault ≡ fault → Ends fault old said new
      → Moves old (Some sent) envelope (Some (codes ".")) (Some said) new
  ended said (Some fault) bad (done, same) =
      subst (λ r. Moves old (Some sent) envelope (Some (codes ".")) (Some r) new) (sym done)
      (dropped (reply_of_fault fault) (fault_part fault) (ap (λ (s : State). s.stage) same)
      (ap (λ (s : State). s.draft) same ∙ same_client) (subst (Keeps old []) (sym same) (keeps_none old)))
  ended said None whole (stores, same) =
      let stage : new.stage ≡ Ready = ap (λ (s : State). s.stage) same in
      let none : new.draft ≡ no_mail envelope.client =
      ap (λ (s : State). s.draft) same ∙ same_client in
      elim stores [
        | inl done ↦
            subst (λ r. Moves old (Some sent) envelope (Some (codes ".")) (Some r) new)
            (sym done.0) (record {
              mails = file_of done.1 old.draft ∷ [];
              after = no_mail envelope.client;
              brings = (
                old.draft.text,
                done.1,
                inside.2 whole,
                done.2,
                ap (λ (mail : Mail). file_of done.1 mail ∷ []) inside.1,
                refl,
              );
              addresses = refl;
              stored = done.3;
              inside = (λ l. let e : Ready ≡ Lines = sym stage ∙ l in cc, none);
            })
        | inr (inl failed) ↦
            subst (λ r. Moves old (Some sent) envelope (Some (codes ".")) (Some r) new)
            (sym failed.0) (dropped reply.NotStored refl stage none failed.1)
        | inr (inr memory) ↦
            subst (λ r. Moves old (Some sent) envelope (Some (codes ".")) (Some r) new)
            (sym memory.0) (dropped reply.NoMemory refl stage none (
              subst (λ f. StoresIn old.folder [] f) (sym memory.1) (in_none old.folder),
              λ fits. memory.2 ∙ (keeps_none old).1 fits,
            ))
      ]

  -- a line that spoils the message
  spoils : (line : Option (List ℕ)) (fault : Fault) → line ≢ Some (codes ".")
      → new ≡ spoiled old fault → Moves old (Some sent) envelope line None new
  spoils line fault other same = goes_on line other
      (subst (Keeps old []) (sym same) (keeps_none old)) (ap (λ (s : State). s.stage) same)
      (subst (λ (s : State). s.draft ≡ record old.draft { text = s.draft.text }) (sym same) refl)
      (λ none. let e : None ≡ Some fault = sym none ∙ ap (λ (s : State). s.fault) same in cc)

  -- a line that is kept, or ignored
  taken : (line : List ℕ) → line ≢ codes "." → (fault : Option Fault) → old.fault ≡ fault
      → TakesLine fault old line new → Moves old (Some sent) envelope (Some line) None new
  taken line other (Some fault) bad same =
      goes_on (Some line) (λ e. other (ap text_in e))
      (subst (Keeps old []) (sym same) (keeps_none old)) (ap (λ (s : State). s.stage) same)
      (subst (λ (s : State). s.draft ≡ record old.draft { text = s.draft.text }) (sym same) refl)
      (λ none. let e : None ≡ Some fault =
      sym none ∙ (ap (λ (s : State). s.fault) same ∙ bad) in cc)
  taken line other None whole keeps = elim keeps [
    | inl fits ↦
        goes_on (Some line) (λ e. other (ap text_in e))
        (subst (Keeps old []) (sym fits.1) (keeps_none old)) (ap (λ (s : State). s.stage) fits.1)
        (subst (λ (s : State). s.draft ≡ record old.draft { text = s.draft.text }) (sym fits.1)
        refl)
        (λ none. subst (λ (s : State). IsText (sent ++ Some line ∷ []) s.draft.text)
        (sym fits.1) (text_more sent old.draft.text line (inside.2 whole)))
    | inr (inl large) ↦ spoils (Some line) TooLarge (λ e. other (ap text_in e)) large.1
    | inr (inr memory) ↦ spoils (Some line) NoMemory (λ e. other (ap text_in e)) memory
  ]

  -- a line of a message
  in_line : (line : List ℕ) (said : Option Reply) → AnswersLine old line said new
      → Moves old (Some sent) envelope (Some line) said new
  in_line line said answers = elim answers [
    | inl dot ↦
        subst (λ r. Moves old (Some sent) envelope (Some line) r new) (sym dot.1.1)
        (subst (λ l. Moves old (Some sent) envelope (Some l) (Some dot.1.0) new) (sym dot.0)
        (ended dot.1.0 old.fault refl dot.1.2))
    | inr text ↦ subst (λ r. Moves old (Some sent) envelope (Some line) r new) (sym text.1)
        (taken line text.0 old.fault refl text.2)
  ]

  -- a line of a message that was rejected
  refused : (error : LineError) (said : Option Reply) → RefusesAt Lines old error said new
      → Moves old (Some sent) envelope None said new
  refused error said (silent, same) =
      subst (λ r. Moves old (Some sent) envelope None r new) (sym silent)
      (goes_on None (λ is. cc) (subst (Keeps old []) (sym same) (keeps_none old))
      (ap (λ (s : State). s.stage) same)
      (subst (λ (s : State). s.draft ≡ record old.draft { text = s.draft.text }) (sym same) refl)
      (λ none. let e : None ≡ Some (first_fault old.fault error) =
      sym none ∙ ap (λ (s : State). s.fault) same in cc))

-- ---- any exchange

module _ (old new : State) (said : Option Reply) where
  -- outside a message, a line is to say a command
  answers_outside : (line : List ℕ) (stage : Stage) → stage ≢ Lines
      → AnswersAt stage old line said new
      → (reply : Reply) × (said ≡ Some reply) × AnswersCommand old line reply new
  answers_outside line Greeting apart answers = answers
  answers_outside line Ready apart answers = answers
  answers_outside line Sender apart answers = answers
  answers_outside line Recipients apart answers = answers
  answers_outside line Lines apart answers = absurd (apart refl)

  -- outside a message, a line that was rejected is answered
  refuses_outside : (error : LineError) (stage : Stage) → stage ≢ Lines
      → RefusesAt stage old error said new → (said ≡ Some (refusal_of error)) × (new ≡ old)
  refuses_outside error Greeting apart refuses = refuses
  refuses_outside error Ready apart refuses = refuses
  refuses_outside error Sender apart refuses = refuses
  refuses_outside error Recipients apart refuses = refuses
  refuses_outside error Lines apart refuses = absurd (apart refl)

  -- a line
  moves : (input : Line) (begun : Option Sent) (envelope : Mail) → Inside begun envelope old
      → AnswersInput old input said new → Moves old begun envelope (Some input.body) said new
  moves input begun envelope inside answers = elim answers [
    | inl cut ↦
        subst (λ r. Moves old begun envelope (Some input.body) r new) (sym cut.1)
        (subst (Moves old begun envelope (Some input.body) (Some reply.CutOff)) (sym cut.2)
        (quiet old (idle Greeting old.draft.client old.left old.count old.folder) begun envelope
        (Some input.body) reply.CutOff refl (cut_off begun inside) (λ l. cc) (keeps_none old)))
    | inr whole ↦ at begun inside whole.1
  ]
    where
      cut_off : (begun : Option Sent) → Inside begun envelope old
          → Addresses begun envelope (Some input.body) (Some reply.CutOff)
          (no_mail old.draft.client)
      cut_off None outside = ap (λ (mail : Mail). no_mail mail.client) outside.1
      cut_off (Some sent) inside = ap (λ (mail : Mail). no_mail mail.client) inside.1

      at : (begun : Option Sent) → Inside begun envelope old
          → AnswersAt old.stage old input.body said new
          → Moves old begun envelope (Some input.body) said new
      at None outside answers =
          let (reply, is, command) = answers_outside input.body old.stage outside.0 answers in
          subst (λ r. Moves old None envelope (Some input.body) r new) (sym is)
          (command_moves old new envelope input.body outside reply command)
      at (Some sent) inside answers = in_line old new sent envelope inside input.body said
          (subst (λ s. AnswersAt s old input.body said new) inside.0 answers)

  -- a line that was rejected
  moves_rejected : (error : LineError) (begun : Option Sent) (envelope : Mail)
      → Inside begun envelope old → RefusesAt old.stage old error said new
      → Moves old begun envelope None said new
  moves_rejected error None envelope outside refuses =
      let (is, same) = refuses_outside error old.stage outside.0 refuses in
      subst (λ r. Moves old None envelope None r new) (sym is)
      (stays old new envelope None outside same (refusal_of error) (refusal_part error)
      (refusal_addresses error envelope))
  moves_rejected error (Some sent) envelope inside refuses =
      refused old new sent envelope inside error said
      (subst (λ s. RefusesAt s old error said new) inside.0 refuses)

-- ---- errors

-- no message begins or is delivered by the reply to an error
error_part : (said : Reply) → is_error said ≡ true → part_of (Some said) ≡ ends
error_part said is = grind (arith, false≢true)

-- and it leaves the envelope as the last one does
module _ (envelope : Mail) (line : Option (List ℕ)) (after : Mail) where
  closes : (begun : Option Sent) (said : Reply) → is_error said ≡ true
      → Addresses begun envelope line (Some said) after
      → Addresses begun envelope line (Some reply.Closing) after
  closes (Some sent) said is addresses = addresses
  closes None said is addresses = grind (arith, false≢true)

-- the same session, with another count of errors
inside_left : (begun : Option Sent) (envelope : Mail) (state : State) (left : ℕ)
    → Inside begun envelope state → Inside begun envelope (record state { left = left })
inside_left None envelope state left apart = apart
inside_left (Some sent) envelope state left inside = inside

module _ (old mid new : State) (begun : Option Sent) (envelope : Mail) (line : Option (List ℕ))
  where
    -- another reply of the same part, and another count
    relabel : (said given : Option Reply) (left : ℕ) → part_of given ≡ part_of said
        → ((after : Mail) → Addresses begun envelope line said after
        → Addresses begun envelope line given after)
        → new ≡ record mid { left = left } → Moves old begun envelope line said mid
        → Moves old begun envelope line given new
    relabel said given left part left_by same moved =
        subst (Moves old begun envelope line given) (sym same) (record {
          mails = moved.mails;
          after = moved.after;
          brings = subst (λ p. Brings p begun envelope line moved.mails) (sym part) moved.brings;
          addresses = left_by moved.after moved.addresses;
          stored = moved.stored;
          inside = subst
              (λ p. Inside (begun_after p begun line) moved.after (record mid { left = left }))
              (sym part)
              (inside_left (begun_after (part_of said) begun line) moved.after mid left moved.inside);
        })

    -- errors are counted
    counted : (said given : Option Reply) → Counts mid said given new
        → Moves old begun envelope line said mid → Moves old begun envelope line given new
    counted None given (is, same) moved = relabel None given mid.left (ap part_of is)
        (λ after a. subst (λ r. Addresses begun envelope line r after) (sym is) a) same moved
    counted (Some said) given counts moved = by (is_error said) refl counts
      where
        kept : given ≡ Some said → (after : Mail) → Addresses begun envelope line (Some said) after
            → Addresses begun envelope line given after
        kept is after a = subst (λ r. Addresses begun envelope line r after) (sym is) a

        by : (b : Bool) → is_error said ≡ b → CountsBy b mid said given new
            → Moves old begun envelope line given new
        by false is (shown, same) =
            relabel (Some said) given mid.left (ap part_of shown) (kept shown) same moved
        by true is counts = elim counts [
          | inl last ↦
              relabel (Some said) given mid.left
              (ap part_of last.1 ∙ sym (error_part said is))
              (λ after a. subst (λ r. Addresses begun envelope line r after) (sym last.1)
              (closes envelope line after begun said is a)) last.2 moved
          | inr more ↦
              relabel (Some said) given (mid.left - 1) (ap part_of more.1) (kept more.1) more.2 moved
        ]

-- ---- the steps of a conversation

module _ (first : ChannelState) (events : List Event) (endings : Endings) (size : ℕ)
    (now : Supply) where
  -- what the steps that come after the steps `past` deliver
  pub record Tells (past : List Step) (begun : Option Sent) (envelope : Mail) (old : State)
      (steps : List Step) (new : State) : Type 0 where
    pub exchanges : List Exchange
    pub mails : List (List ℕ)
    pub are : AreExchanges first events past steps exchanges
    pub delivers : Delivers begun envelope exchanges mails
    pub stored : Keeps old mails new

  -- an exchange comes before others
  cons_exchange : (past : List Step) (begun : Option Sent) (envelope : Mail)
      (old mid new : State) (line : Option (List ℕ)) (said : Option Reply)
      (exchanges : List Exchange) (mails : List (List ℕ))
      (moved : Moves old begun envelope line said mid)
      → Delivers (begun_after (part_of said) begun line) moved.after exchanges mails
      → Keeps mid mails new
      → Delivers begun envelope (record { line = line; reply = said } ∷ exchanges)
      (moved.mails ++ mails) × Keeps old (moved.mails ++ mails) new
  cons_exchange past begun envelope old mid new line said exchanges mails moved delivers stored = (
    (moved.mails, mails, moved.after, refl, moved.brings, moved.addresses, delivers),
    keeps_then old mid new moved.mails mails moved.stored stored,
  )

  -- the steps from a place on
  pub tells : (a b : Place State) (past steps : List Step) (begun : Option Sent) (envelope : Mail)
      → Inside begun envelope a.handler
      → Turns session_answers session_refuses endings size now a steps b
      → AtEachSending (AreSentFirst first events) past steps
      → Tells past begun envelope a.handler steps b.handler
  tells a b past [] begun envelope inside same ordered = record {
    exchanges = [];
    mails = [];
    are = refl;
    delivers = refl;
    stored = subst (λ (p : Place State). Keeps a.handler [] p.handler) (sym same)
        (keeps_none a.handler);
  }
  tells a b past (step ∷ steps) begun envelope inside (mid, turn, turns) ordered = go a.awaited step
      (AtEachSending-after (AreSentFirst first events) past (step ∷ []) steps ordered)
      (λ begun envelope inside. tells mid b (past ++ step ∷ []) steps begun envelope inside turns
      (AtEachSending-after (AreSentFirst first events) past (step ∷ []) steps ordered)) turn
    where
      -- a step that is not an exchange
      skips : (step : Step) → mid.handler ≡ a.handler
          → ((begun : Option Sent) (envelope : Mail) → Inside begun envelope mid.handler
          → Tells (past ++ step ∷ []) begun envelope mid.handler steps b.handler)
          → Tells (past ++ step ∷ []) begun envelope a.handler steps b.handler
      skips step same rest =
          subst (λ (s : State). Tells (past ++ step ∷ []) begun envelope s steps b.handler) same
          (rest begun envelope (subst (Inside begun envelope) (sym same) inside))

      passed : (bytes : List ℕ)
          → Tells (past ++ skipped bytes ∷ []) begun envelope a.handler steps b.handler
          → Tells past begun envelope a.handler (skipped bytes ∷ steps) b.handler
      passed bytes others = record {
        exchanges = others.exchanges;
        mails = others.mails;
        are = others.are;
        delivers = others.delivers;
        stored = others.stored;
      }

      passed_sending : Tells (past ++ sent_out ∷ []) begun envelope a.handler steps b.handler
          → Tells past begun envelope a.handler (sent_out ∷ steps) b.handler
      passed_sending others = record {
        exchanges = others.exchanges;
        mails = others.mails;
        are = others.are;
        delivers = others.delivers;
        stored = others.stored;
      }

      go : (awaited : Awaited) (step : Step)
          → AtEachSending (AreSentFirst first events) (past ++ step ∷ []) steps
          → ((begun : Option Sent) (envelope : Mail) → Inside begun envelope mid.handler
          → Tells (past ++ step ∷ []) begun envelope mid.handler steps b.handler)
          → IsTurnAt session_answers session_refuses endings size now awaited a step mid
          → Tells past begun envelope a.handler (step ∷ steps) b.handler
      go (Input asked) (took input replies) then rest t =
          let (first_said, said, halfway, answers, counts, is, asks) = t.8 in
          let moved = counted a.handler halfway mid.handler begun envelope (Some input.body)
          first_said said counts
          (moves a.handler halfway first_said input begun envelope inside answers) in
          let others = rest (begun_after (part_of said) begun (Some input.body)) moved.after
          moved.inside in
          let more = cons_exchange past begun envelope a.handler mid.handler b.handler
          (Some input.body) said others.exchanges others.mails moved others.delivers others.stored in
          record {
            exchanges = record { line = Some input.body; reply = said } ∷ others.exchanges;
            mails = moved.mails ++ others.mails;
            are = (
              said,
              others.exchanges,
              is,
              refl,
              λ received. sends_first session_answers session_refuses endings size now
                  (AreSentFirst first events) mid b (past ++ took input replies ∷ []) steps
                  (t.3 ∙ ap awaited_by (asks ∙ ap next_after received)) turns then,
              others.are,
            );
            delivers = more.0;
            stored = more.1;
          }
      go (Input asked) (serve.rejected error replies) then rest t =
          let (first_said, said, halfway, refuses, counts, is, asks) = t.5 in
          let moved = counted a.handler halfway mid.handler begun envelope None first_said said
          counts (moves_rejected a.handler halfway first_said error begun envelope inside refuses) in
          let others = rest (begun_after (part_of said) begun None) moved.after moved.inside in
          let more = cons_exchange past begun envelope a.handler mid.handler b.handler None said
          others.exchanges others.mails moved others.delivers others.stored in
          record {
            exchanges = record { line = None; reply = said } ∷ others.exchanges;
            mails = moved.mails ++ others.mails;
            are = (said, others.exchanges, is, refl, others.are);
            delivers = more.0;
            stored = more.1;
          }
      go (Input asked) (skipped bytes) then rest t =
          passed bytes (skips (skipped bytes) (ap (λ (p : Place State). p.handler) t.3) rest)
      go (LineEnd asked) (skipped bytes) then rest t =
          passed bytes (skips (skipped bytes) t.0 rest)
      go Sending sent_out then rest same =
          passed_sending (skips sent_out (ap (λ (p : Place State). p.handler) same) rest)
      go Sending (skipped bytes) then rest t =
          passed bytes (skips (skipped bytes) (ap (λ (p : Place State). p.handler) t.1) rest)
      go _ _ then rest none = absurd none
