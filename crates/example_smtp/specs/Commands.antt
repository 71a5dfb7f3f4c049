-- The commands of a client, the lines that say them, and the lines that reply to them.
use Rattle.std.specs.Prelude.{◌≡◌, ◌≢◌, ◌⊎◌, ◌<◌, ◌≤◌, ◌^◌, ◌-◌, ℕ, List, [], ◌∷◌, ◌++◌}
use Rattle.std.specs.Prelude.{MatchResult, codes}
use Rattle.std.specs.List.{All, Contains}
use Rattle.std.specs.declared.result.Result.{Result}
use Rattle.ascii.specs.Class.{IsBlank, IsGraphic}
use Rattle.ascii.specs.Search.{ContainsText, IgnoringCase, IsCut, IsPrefix, StartsWith}
use Rattle.ascii.specs.Trim.{TrimsEnd}
use Rattle.ascii.specs.View.{text_of}
use Rattle.ascii_formats.specs.Numbers.{WritesNumber}
use Rattle.example_smtp.specs.Paths.{IsPath, IsRecipient, IsSender}
use Rattle.example_smtp.specs.declared.commands.Command.{Command}
use Rattle.example_smtp.specs.declared.commands.Command.TheVariants.{AddRecipient, BeginLines, Extend}
use Rattle.example_smtp.specs.declared.commands.Command.TheVariants.{Introduce, Leave, Reset}
use Rattle.example_smtp.specs.declared.commands.Command.TheVariants.{SetSender, Verify}
use Rattle.example_smtp.specs.declared.commands.Command.TheVariants as command
use Rattle.example_smtp.specs.declared.commands.Reply.{Reply}
use Rattle.example_smtp.specs.declared.commands.Reply.TheVariants as reply
use Rattle.example_smtp.specs.declared.commands.Verb.{Verb}
use Rattle.example_smtp.specs.declared.commands.Verb.TheVariants.{Helo, Ehlo, Mail, Rcpt, Data, Rset}
use Rattle.example_smtp.specs.declared.commands.Verb.TheVariants.{Noop, Quit, Vrfy}

-- the name of a verb; that of a path has the word before it
abbrev pub name_of : Verb → List ℕ
name_of Helo = codes "HELO"
name_of Ehlo = codes "EHLO"
name_of Mail = codes "MAIL FROM:"
name_of Rcpt = codes "RCPT TO:"
name_of Data = codes "DATA"
name_of Rset = codes "RSET"
name_of Vrfy = codes "VRFY"
name_of Noop = codes "NOOP"
name_of Quit = codes "QUIT"

-- `argument` is a space and then `word`, which is not empty
abbrev pub IsWord : List ℕ → List ℕ → Type 0
IsWord word argument = IsPrefix (codes " ") argument word × (word ≢ [])

-- the most bytes of the text of a message
abbrev pub most_bytes : ℕ
most_bytes = 16777216

-- `argument` is `path`, and then ` SIZE=`, in any case, and a number of bytes, `size`
pub record IsSized (argument path : List ℕ) (size : ℕ) : Type 0 where
  pub word : List ℕ
  pub digits : List ℕ
  pub cut : IsCut (λ _ word. ¬ (Contains word 32)) (codes " ") argument path word
  pub named : IgnoringCase (λ name. IsPrefix name word digits) (codes "SIZE=")
  pub written : WritesNumber (2 ^ 64 - 1) digits size

-- `path` is that of `address`, from which a message may come
abbrev pub IsSenderPath : List ℕ → List ℕ → Type 0
IsSenderPath address path = IsPath address path × IsSender address

-- `argument` is the path of the sender `address`, perhaps with the size of the message after it,
-- which is not too large
abbrev pub SaysSender : List ℕ → List ℕ → Type 0
SaysSender address argument = IsSenderPath address argument
    ⊎ ((path : List ℕ) × (size : ℕ) × IsSized argument path size × (size ≤ most_bytes)
    × IsSenderPath address path)

-- `argument` is as `verb` takes it: a space and a domain, the path of a sender or of a recipient, a
-- space and a mailbox, nothing or what a space starts, or nothing
abbrev pub IsArgument : Verb → List ℕ → Type 0
IsArgument Helo argument = (domain : List ℕ) × IsWord domain argument
IsArgument Ehlo argument = (domain : List ℕ) × IsWord domain argument
IsArgument Mail argument = (address : List ℕ) × SaysSender address argument
IsArgument Rcpt argument = (address : List ℕ) × IsPath address argument × IsRecipient address
IsArgument Vrfy argument = (mailbox : List ℕ) × IsWord mailbox argument
IsArgument Noop argument = (argument ≡ []) ⊎ StartsWith (codes " ") argument
IsArgument verb argument = argument ≡ []

-- `command` is the verb `verb` with the argument `argument`
abbrev pub HasParts : Verb → List ℕ → Command → Type 0
HasParts verb argument (Introduce domain) = (verb ≡ Helo) × IsWord (text_of domain) argument
HasParts verb argument (Extend domain) = (verb ≡ Ehlo) × IsWord (text_of domain) argument
HasParts verb argument (SetSender address) =
    (verb ≡ Mail) × SaysSender (text_of address) argument
HasParts verb argument (AddRecipient address) =
    (verb ≡ Rcpt) × IsPath (text_of address) argument × IsRecipient (text_of address)
HasParts verb argument BeginLines = (verb ≡ Data) × (argument ≡ [])
HasParts verb argument Reset = (verb ≡ Rset) × (argument ≡ [])
HasParts verb argument (Verify mailbox) =
    (verb ≡ Vrfy) × IsWord (text_of mailbox) argument
HasParts verb argument command.Reply =
    (verb ≡ Noop) × ((argument ≡ []) ⊎ StartsWith (codes " ") argument)
HasParts verb argument Leave = (verb ≡ Quit) × (argument ≡ [])

-- `argument` says the size of a message that is too large
abbrev pub IsTooLarge : List ℕ → Type 0
IsTooLarge argument =
    (path : List ℕ) × (size : ℕ) × IsSized argument path size × (most_bytes < size)

-- `verb` begins a message that is too large
abbrev pub IsLargeMail : Verb → List ℕ → Type 0
IsLargeMail verb argument = (verb ≡ Mail) × IsTooLarge argument

-- the reply to an argument that is not as `verb` takes it: there may be a size or another parameter
-- after a path
abbrev pub IsArgumentFault : Verb → List ℕ → Reply → Type 0
IsArgumentFault verb argument fault =
    (IsLargeMail verb argument × (fault ≡ reply.LargeMessage))
    ⊎ (¬ (IsLargeMail verb argument) × ContainsText (codes "> ") argument
    × (fault ≡ reply.UnknownParameter))
    ⊎ (¬ (IsLargeMail verb argument) × ¬ (ContainsText (codes "> ") argument)
    × (fault ≡ reply.BadArgument))

-- `line` begins with the name of `verb`, in any case
abbrev pub BeginsWithVerb : List ℕ → Verb → Type 0
BeginsWithVerb line verb = IgnoringCase (λ start. StartsWith start line) (name_of verb)

-- `line` is the name of `verb`, in any case, and then `argument`
abbrev pub IsCall : List ℕ → Verb → List ℕ → Type 0
IsCall line verb argument = IgnoringCase (λ start. IsPrefix start line argument) (name_of verb)

-- `said` is `line` without the spaces and tabs at its end
abbrev pub IsSaid : List ℕ → List ℕ → Type 0
IsSaid said line = TrimsEnd IsBlank line said

-- `line` says `command`
abbrev pub Says : List ℕ → Command → Type 0
Says line command = (said : List ℕ) × (verb : Verb) × (argument : List ℕ) × IsSaid said line
    × IsCall said verb argument × HasParts verb argument command

-- why `line` does not say a command: it does not begin with the name of a verb, or is a verb with an
-- argument at fault
abbrev pub IsFault : List ℕ → Reply → Type 0
IsFault line fault = ((fault ≡ reply.UnknownCommand)
    × ((said : List ℕ) × IsSaid said line × ((verb : Verb) → ¬ (BeginsWithVerb said verb))))
    ⊎ ((said : List ℕ) × (verb : Verb) × (argument : List ℕ) × IsSaid said line
    × IsCall said verb argument × ¬ (IsArgument verb argument)
    × IsArgumentFault verb argument fault)

-- `Ok`: the command that `line` says. `Err`: the reply that says why it does not say one
abbrev pub ReadsCommand : List ℕ → Result Command Reply → Type 0
ReadsCommand line result = MatchResult result (Says line) (IsFault line)

-- `line` begins as a request of HTTP does
abbrev pub IsRequestLine : List ℕ → Type 0
IsRequestLine line = StartsWith (codes "GET ") line ⊎ StartsWith (codes "POST ") line
    ⊎ StartsWith (codes "PUT ") line ⊎ StartsWith (codes "HEAD ") line
    ⊎ StartsWith (codes "CONNECT ") line

-- `line` is a header: a name of visible characters other than a colon, a colon, and any text
abbrev pub IsHeader : List ℕ → Type 0
IsHeader line = (name : List ℕ) × (text : List ℕ) × (name ++ 58 ∷ text ≡ line) × (name ≢ [])
    × ¬ (Contains name 58) × All IsGraphic name

-- `line` is that of another protocol: it begins as a request of HTTP does, or is a header
abbrev pub IsForeign : List ℕ → Type 0
IsForeign line = IsRequestLine line ⊎ IsHeader line

-- the line of a reply, or its lines
abbrev pub reply_line : Reply → List ℕ
reply_line reply.Bye = codes "221 bye"
reply_line reply.Done = codes "250 OK"
reply_line reply.Extensions = codes "250-localhost" ++ 13 ∷ 10 ∷ (codes "250-PIPELINING"
    ++ 13 ∷ 10 ∷ codes "250 SIZE 16777216")
reply_line reply.Received = codes "250 OK"
reply_line reply.SendLines = codes "354 send the lines"
reply_line reply.Unverified = codes "252 not verified"
reply_line reply.TooManyRecipients = codes "452 too many recipients"
reply_line reply.UnknownCommand = codes "500 unknown command"
reply_line reply.BadArgument = codes "501 bad argument"
reply_line reply.UnknownParameter = codes "555 unknown parameter"
reply_line reply.BadSequence = codes "503 bad sequence"
reply_line reply.LongLine = codes "500 line too long"
reply_line reply.BadLine = codes "554 bad line"
reply_line reply.CutOff = codes "554 bad line"
reply_line reply.NoMemory = codes "452 out of memory"
reply_line reply.BadMessage = codes "554 bad message"
reply_line reply.OtherBytes = codes "554 the message is not ASCII"
reply_line reply.LargeMessage = codes "552 message too large"
reply_line reply.NotStored = codes "451 not stored"
reply_line reply.Closing = codes "421 closing"
