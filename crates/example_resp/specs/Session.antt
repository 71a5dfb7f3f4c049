-- The state of a session, and what it answers to a request that it has read whole.
use Rattle.std.specs.Prelude.{◌≡◌, ℕ, List, [], ◌∷◌, MatchResult, None, Option, Some, codes, slice_get}
use Rattle.std.specs.declared.result.Result.{Result}
use Rattle.ascii_lines.specs.declared.serving.Next.{Next}
use Rattle.ascii_lines.specs.declared.serving.Next.TheVariants as next
use Rattle.example_resp.specs.Commands.{ReadsCommand, after, count_reply, fault_line, reply}
use Rattle.example_resp.specs.Commands.{server_reply, value_reply}
use Rattle.example_resp.specs.Store.{Contents, contents_of, byte_lists}
use Rattle.example_resp.specs.declared.commands.Rejection.TheVariants.{BadName, NoDatabase, NoProtocol}
use Rattle.example_resp.specs.declared.commands.Rejection.TheVariants.{UnknownCommand}
use Rattle.example_resp.specs.declared.commands.Rejection.TheVariants.{UnknownSubcommand}
use Rattle.example_resp.specs.declared.commands.Rejection.TheVariants.{WrongArguments}
use Rattle.example_resp.specs.declared.commands.Command.{Command}
use Rattle.example_resp.specs.declared.commands.Rejection.{Rejection}
use Rattle.example_resp.specs.declared.commands.Command.TheVariants.{Leave}
use Rattle.example_resp.specs.declared.replies.Reply.{Reply}
use Rattle.example_resp.specs.declared.replies.Reply.TheVariants.{Count, Done, Fault, Pong, Silence}
use Rattle.example_resp.specs.declared.replies.Reply.TheVariants.{Server, Text, Value}
use Rattle.example_resp.specs.declared.session.Plan.{Plan}
use Rattle.example_resp.specs.declared.session.Session.{Session}
use Rattle.example_resp.specs.declared.session.Stage.{Stage}
use Rattle.example_resp.specs.declared.session.Stage.TheVariants as stage

-- the state of a session: the contents of its store, the words that it has read of a request, and
-- what it awaits
pub record State : Type 0 where
  pub contents : Contents
  pub words : List (List ℕ)
  pub stage : Stage

-- what is answered: the replies, what is asked for next, and the state that is left
pub record Answer : Type 0 where
  pub replies : List (List ℕ)
  pub next : Next
  pub state : State

-- the state of a session, without its layout
abbrev pub state_of : Session → State
state_of session = record {
  contents = contents_of session.store;
  words = byte_lists session.words.items;
  stage = session.stage;
}

-- the value at a key in these contents, if there is a key
abbrev pub value_at : Contents → Option (List ℕ) → Option (List ℕ)
value_at held None = None
value_at held (Some key) = held key

-- the lines of a reply, by the contents of the store and the words of the request
abbrev pub reply_lines : Contents → List (List ℕ) → Reply → List (List ℕ)
reply_lines held words Silence = []
reply_lines held words Done = codes "+OK" ∷ []
reply_lines held words Pong = codes "+PONG" ∷ []
reply_lines held words (Count number) = count_reply number
reply_lines held words Value = value_reply (value_at held (slice_get words 1))
reply_lines held words Text = value_reply (slice_get words 1)
reply_lines held words Server = server_reply ∷ []
reply_lines held words (Fault rejection) = fault_line rejection (slice_get words 0) ∷ []

-- the answer that is planned, and leaves `session`
abbrev pub answer_of : Plan → Session → Answer
answer_of plan session = record {
  replies = reply_lines (contents_of session.store) (byte_lists session.words.items) plan.reply;
  next = plan.next;
  state = state_of session;
}

-- a request is awaited, whose words take the place of those that are kept
abbrev pub IsIdle : State → Type 0
IsIdle state = state.stage ≡ stage.Request

-- a request is awaited, and no key has a value
pub record IsFresh (state : State) : Type 0 where
  pub empty : (key : List ℕ) → state.contents key ≡ None
  pub idle : IsIdle state

-- the answer has no replies and asks for `asked`; it leaves `words` and `stage`, and the contents
-- `held`
pub record Awaits (held : Contents) (words : List (List ℕ)) (stage : Stage) (asked : Next)
    (answer : Answer) : Type 0 where
  pub silent : answer.replies ≡ []
  pub asks : answer.next ≡ asked
  pub kept : answer.state.words ≡ words
  pub awaited : answer.state.stage ≡ stage
  pub contents : (key : List ℕ) → answer.state.contents key ≡ held key

-- what is asked for after a rejection: the next request; or nothing, if it is not known where that
-- starts
abbrev pub asked_after : Rejection → Next
asked_after UnknownCommand = next.Line
asked_after BadName = next.Line
asked_after (WrongArguments verb) = next.Line
asked_after NoDatabase = next.Line
asked_after UnknownSubcommand = next.Line
asked_after NoProtocol = next.Line
asked_after other = next.Close

-- the answer is the line of the rejection, and asks for what comes after it; it leaves the contents
-- `held`
pub record Rejects (held : Contents) (rejection : Rejection) (answer : Answer) : Type 0 where
  pub replies : answer.replies ≡ fault_line rejection (slice_get answer.state.words 0) ∷ []
  pub asks : answer.next ≡ asked_after rejection
  pub idle : IsIdle answer.state
  pub contents : (key : List ℕ) → answer.state.contents key ≡ held key

-- what is asked for after a command
abbrev pub next_after : Command → Next
next_after Leave = next.Close
next_after other = next.Line

-- the answer is the reply to the command, and asks for what comes after it; it leaves the contents
-- that are `held` after the command
pub record Follows (held : Contents) (command : Command) (answer : Answer) : Type 0 where
  pub replies : answer.replies ≡ reply held command
  pub asks : answer.next ≡ next_after command
  pub idle : IsIdle answer.state
  pub contents : (key : List ℕ) → answer.state.contents key ≡ after held command key

-- the command that `words` say is followed; if they do not say one, they are rejected; no words are
-- not answered
abbrev pub CarriesOut : Contents → List (List ℕ) → Answer → Type 0
CarriesOut held [] answer = Awaits held [] stage.Request next.Line answer
CarriesOut held words answer = (outcome : Result Command Rejection) × ReadsCommand words outcome
    × MatchResult outcome (λ command. Follows held command answer)
    (λ rejection. Rejects held rejection answer × (answer.state.words ≡ words))
