-- What a session replies to a line.
use Rattle.std.specs.Prelude.{◌≡◌, ◌≢◌, ◌⊎◌, ◌<◌, ◌≤◌, ◌-◌, ℕ, Bool, List, [], ◌∷◌, ◌++◌, MatchResult, None, Some, ⊤}
use Rattle.std.specs.Prelude.{codes, false, length, true}
use Rattle.std.specs.Str.{IsAscii}
use Rattle.std.specs.declared.option.Option.{Option}
use Rattle.std.specs.declared.result.Result.{Result}
use Rattle.ascii.specs.Lines.{Line}
use Rattle.ascii.specs.View.{text_of}
use Rattle.ascii.specs.declared.iter.spans.Ending.TheVariants.{Absent}
use Rattle.ascii_lines.specs.Replies as serve
use Rattle.ascii_lines.specs.Replies.{line_reply}
use Rattle.ascii_lines.specs.declared.line_reader.LineError.{LineError}
use Rattle.ascii_lines.specs.declared.line_reader.LineError.TheVariants.{LoneBreak, NotAscii, TooLong}
use Rattle.ascii_lines.specs.declared.serving.Next.{Next}
use Rattle.ascii_lines.specs.declared.serving.Next.TheVariants as next
use Rattle.example_smtp.specs.Commands.{IsForeign, ReadsCommand, most_bytes, reply_line}
use Rattle.example_smtp.specs.Mail.{IsUnbroken, Keeps, Mail, State, file_of, idle, no_mail, unstuffed}
use Rattle.example_smtp.specs.declared.commands.Command.{Command}
use Rattle.example_smtp.specs.declared.commands.Command.TheVariants.{AddRecipient, BeginLines, Extend}
use Rattle.example_smtp.specs.declared.commands.Command.TheVariants.{Introduce, Leave, Reset}
use Rattle.example_smtp.specs.declared.commands.Command.TheVariants.{SetSender, Verify}
use Rattle.example_smtp.specs.declared.commands.Reply.{Reply}
use Rattle.example_smtp.specs.declared.commands.Reply.TheVariants as reply
use Rattle.example_smtp.specs.declared.session.Fault.{Fault}
use Rattle.example_smtp.specs.declared.session.Fault.TheVariants.{NoMemory, OtherBytes, Rejected, TooLarge}
use Rattle.example_smtp.specs.declared.session.Stage.{Stage}
use Rattle.example_smtp.specs.declared.session.Stage.TheVariants.{Greeting, Lines, Ready}
use Rattle.example_smtp.specs.declared.session.Stage.TheVariants.{Recipients, Sender}

-- ---- commands

-- the command is allowed at this stage
abbrev pub IsAllowed : Stage → Command → Type 0
IsAllowed stage (SetSender address) = stage ≡ Ready
IsAllowed stage (AddRecipient address) = (stage ≡ Sender) ⊎ (stage ≡ Recipients)
IsAllowed stage BeginLines = stage ≡ Recipients
IsAllowed stage other = ⊤

-- the most recipients of a message
abbrev pub most_recipients : ℕ
most_recipients = 1000

-- a message with this number of recipients takes the command: if it adds one, there may be one more
abbrev pub Fits : ℕ → Command → Type 0
Fits count (AddRecipient address) = count < most_recipients
Fits count other = ⊤

-- the reply to a command that is allowed
abbrev pub reply_to : Command → Reply
reply_to BeginLines = reply.SendLines
reply_to (Verify mailbox) = reply.Unverified
reply_to Leave = reply.Bye
reply_to (Extend domain) = reply.Extensions
reply_to other = reply.Done

-- the stage after a draft is dropped: a client that has not introduced itself still has to
abbrev pub reset_stage : Stage → Stage
reset_stage Greeting = Greeting
reset_stage other = Ready

-- the envelope after a command that is carried out: it has a sender; or one recipient more; or
-- another client and nothing more; or nothing more than its client; or stays
abbrev pub envelope_after : Mail → Command → Mail
envelope_after old (SetSender address) =
    record (no_mail old.client) { sender = text_of address }
envelope_after old (AddRecipient address) =
    record old { recipients = old.recipients ++ text_of address ∷ [] }
envelope_after old (Introduce domain) = no_mail (text_of domain)
envelope_after old (Extend domain) = no_mail (text_of domain)
envelope_after old Reset = no_mail old.client
envelope_after old other = old

-- the state after a command that is allowed
abbrev pub after : State → Command → State
after old (Introduce domain) =
    record old { stage = Ready; draft = envelope_after old.draft (Introduce domain) }
after old (Extend domain) =
    record old { stage = Ready; draft = envelope_after old.draft (Extend domain) }
after old (SetSender address) =
    record old { stage = Sender; draft = envelope_after old.draft (SetSender address) }
after old (AddRecipient address) =
    record old { stage = Recipients; draft = envelope_after old.draft (AddRecipient address) }
after old BeginLines =
    record old { stage = Lines; draft = record old.draft { text = [] }; fault = None }
after old Reset =
    record old { stage = reset_stage old.stage; draft = envelope_after old.draft Reset }
after old other = old

-- the command is not carried out: it is not allowed, or adds a recipient too many, or an allocation
-- fails
abbrev pub IsRejected : State → Command → Reply → Type 0
IsRejected old command said =
    (¬ (IsAllowed old.stage command) × (said ≡ reply.BadSequence))
    ⊎ (IsAllowed old.stage command × ¬ (Fits (length old.draft.recipients) command)
    × (said ≡ reply.TooManyRecipients)) ⊎ (said ≡ reply.NoMemory)

-- the reply to a command, and the state after it: it is allowed and carried out, or nothing changes
abbrev pub Follows : State → Command → Reply → State → Type 0
Follows old command said new =
    (IsAllowed old.stage command × Fits (length old.draft.recipients) command
    × (said ≡ reply_to command) × (new ≡ after old command))
    ⊎ (IsRejected old command said × (new ≡ old))

-- a client that has not introduced itself sends the first line of another protocol
abbrev pub IsStranger : State → List ℕ → Type 0
IsStranger old line = (old.stage ≡ Greeting) × IsForeign line

-- the reply to a line that is to say a command: that to the command, or why it says none. A
-- stranger is left
abbrev pub AnswersCommand : State → List ℕ → Reply → State → Type 0
AnswersCommand old line said new = (IsStranger old line × (said ≡ reply.Closing) × (new ≡ old))
    ⊎ (¬ (IsStranger old line) × ((outcome : Result Command Reply) × ReadsCommand line outcome
    × MatchResult outcome (λ command. Follows old command said new)
    (λ fault. (said ≡ fault) × (new ≡ old))))

-- ---- the lines of a message

-- the message has a fault, and its text is dropped
abbrev pub spoiled : State → Fault → State
spoiled old fault = record old { draft = record old.draft { text = [] }; fault = Some fault }

-- a line more in the text of the message that was begun: it is kept if it fits, and there is memory
abbrev pub KeepsLine : State → List ℕ → State → Type 0
KeepsLine old text new = ((length text ≤ most_bytes)
    × (new ≡ record old { draft = record old.draft { text = text } }))
    ⊎ ((most_bytes < length text) × (new ≡ spoiled old TooLarge)) ⊎ (new ≡ spoiled old NoMemory)

-- a line of a message is kept, with dot-stuffing undone and with CR LF; or ignored if the message has
-- a fault
abbrev pub TakesLine : Option Fault → State → List ℕ → State → Type 0
TakesLine None old sent new =
    KeepsLine old (old.draft.text ++ (unstuffed sent ++ 13 ∷ 10 ∷ [])) new
TakesLine (Some fault) old sent new = new ≡ old

-- the reply to the dot of a message with a fault
abbrev pub reply_of_fault : Fault → Reply
reply_of_fault Rejected = reply.BadMessage
reply_of_fault OtherBytes = reply.OtherBytes
reply_of_fault TooLarge = reply.LargeMessage
reply_of_fault NoMemory = reply.NoMemory

-- a message without a fault is stored, or could not be, or there is no memory for its envelope
abbrev pub EndsWhole : State → Reply → State → Type 0
EndsWhole old said new =
    ((said ≡ reply.Received) × (date : List ℕ) × IsUnbroken date
    × Keeps old (file_of date old.draft ∷ []) new)
    ⊎ ((said ≡ reply.NotStored) × Keeps old [] new)
    ⊎ ((said ≡ reply.NoMemory) × (new.folder ≡ old.folder) × (new.count ≡ old.count))

-- the message that was begun is ended with this reply, by its fault, and another may begin
abbrev pub Ends : Option Fault → State → Reply → State → Type 0
Ends None old said new =
    EndsWhole old said new × (new ≡ idle Ready old.draft.client old.left new.count new.folder)
Ends (Some fault) old said new =
    (said ≡ reply_of_fault fault)
    × (new ≡ idle Ready old.draft.client old.left old.count old.folder)

-- the reply to a line of a message: a dot alone ends it; to another line there is none
abbrev pub AnswersLine : State → List ℕ → Option Reply → State → Type 0
AnswersLine old sent said new = ((sent ≡ codes ".")
    × ((ending : Reply) × (said ≡ Some ending) × Ends old.fault old ending new))
    ⊎ ((sent ≢ codes ".") × (said ≡ None) × TakesLine old.fault old sent new)

-- ---- the session as a handler

-- the reply to a line, by what is awaited
abbrev pub AnswersAt : Stage → State → List ℕ → Option Reply → State → Type 0
AnswersAt Lines old sent said new = AnswersLine old sent said new
AnswersAt other old line said new =
    (reply : Reply) × (said ≡ Some reply) × AnswersCommand old line reply new

-- the reply to a line, which has its ending, or was cut off. What is not ASCII, which a session does
-- not ask for, ends it as well
abbrev pub AnswersInput : State → Line → Option Reply → State → Type 0
AnswersInput old input said new = (((input.ending ≡ Absent) ⊎ ¬ (IsAscii input.body))
    × (said ≡ Some reply.CutOff)
    × (new ≡ idle Greeting old.draft.client old.left old.count old.folder))
    ⊎ ((input.ending ≢ Absent) × AnswersAt old.stage old input.body said new)

-- the reply to an error of the input
abbrev pub refusal_of : LineError → Reply
refusal_of (TooLong start) = reply.LongLine
refusal_of (NotAscii place) = reply.BadLine
refusal_of (LoneBreak place) = reply.BadLine
refusal_of other = reply.Closing

-- the fault of a message, of which a line is rejected for this error
abbrev pub fault_of : LineError → Fault
fault_of (NotAscii place) = OtherBytes
fault_of other = Rejected

-- the first fault of a message, which may have had one before this error
abbrev pub first_fault : Option Fault → LineError → Fault
first_fault None error = fault_of error
first_fault (Some fault) error = fault

-- the reply to an error in place of a line, by what is awaited: a message has a fault from then on,
-- and is not answered before its end
abbrev pub RefusesAt : Stage → State → LineError → Option Reply → State → Type 0
RefusesAt Lines old error said new =
    (said ≡ None) × (new ≡ record old { fault = Some (first_fault old.fault error) })
RefusesAt other old error said new = (said ≡ Some (refusal_of error)) × (new ≡ old)

-- the reply is to an error of the client
abbrev pub is_error : Reply → Bool
is_error reply.UnknownCommand = true
is_error reply.BadArgument = true
is_error reply.UnknownParameter = true
is_error reply.BadSequence = true
is_error reply.LongLine = true
is_error reply.BadLine = true
is_error other = false

-- what is replied in place of a reply, by whether that is to an error: at the last one the client is
-- left with 421
abbrev pub CountsBy : Bool → State → Reply → Option Reply → State → Type 0
CountsBy false old said given new = (given ≡ Some said) × (new ≡ old)
CountsBy true old said given new =
    ((old.left ≤ 1) × (given ≡ Some reply.Closing) × (new ≡ old))
    ⊎ ((1 < old.left) × (given ≡ Some said) × (new ≡ record old { left = old.left - 1 }))

-- what is replied, if anything is, after errors are counted
abbrev pub Counts : State → Option Reply → Option Reply → State → Type 0
Counts old None given new = (given ≡ None) × (new ≡ old)
Counts old (Some said) given new = CountsBy (is_error said) old said given new

-- what is asked for after a reply
abbrev pub next_after : Option Reply → Next
next_after (Some reply.Bye) = next.Close
next_after (Some reply.Closing) = next.Close
next_after (Some reply.CutOff) = next.Close
next_after (Some reply.Received) = next.LineOnceSent
next_after other = next.Line

-- a reply as lines, if there is one
abbrev pub reply_lines : Option Reply → List serve.Reply
reply_lines None = []
reply_lines (Some said) = line_reply (reply_line said) ∷ []

-- what a session answers, as the relation of a handler
abbrev pub session_answers : State → Line → List serve.Reply → Next → State → Type 0
session_answers old input replies asked new = (said : Option Reply) × (given : Option Reply)
    × (mid : State) × AnswersInput old input said mid × Counts mid said given new
    × (replies ≡ reply_lines given) × (asked ≡ next_after given)

-- what it answers to an error in place of a line
abbrev pub session_refuses : State → LineError → List serve.Reply → Next → State → Type 0
session_refuses old error replies asked new = (said : Option Reply) × (given : Option Reply)
    × (mid : State) × RefusesAt old.stage old error said mid × Counts mid said given new
    × (replies ≡ reply_lines given) × (asked ≡ next_after given)
