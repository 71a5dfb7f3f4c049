-- What the servers of these tests reply.
use Rattle.std.specs.Prelude.{if◌then◌else◌, ◌≡◌, ◌+◌, List, [], ◌∷◌, ◌++◌, Bool, None, Some}
use Rattle.std.specs.Prelude.{codes, false, length, true, ℕ}
use Rattle.std.specs.Str.{bytes_eq}
use Rattle.std.specs.declared.option.Option.{Option}
use Rattle.ascii.specs.Lines.{Line}
use Rattle.ascii.specs.declared.iter.spans.Ending.TheVariants.{Absent}
use Rattle.ascii_devices.specs.Devices.{received_of}
use Rattle.ascii_lines.specs.Exchanges.{TakesNothing, bytes_of, given_in, said_in}
use Rattle.ascii_lines.specs.Replies.{Reply, Step, line_reply, rejected, took}
use Rattle.ascii_lines.specs.Serve.{ChannelState, Serves, Talk, first_place}
use Rattle.ascii_lines.specs.Steps.{Explains}
use Rattle.ascii_lines.specs.Turns.{IsTurn, Place, Turns, place_of}
use Rattle.ascii_lines.specs.declared.conversation.Awaited.TheVariants.{Input}
use Rattle.ascii_lines.specs.declared.line_reader.LineError.{LineError}
use Rattle.ascii_lines.specs.declared.serving.Next.{Next}
use Rattle.ascii_lines.specs.declared.serving.Next.TheVariants as next
use Rattle.ascii_lines.specs.declared.serving.Stop.{Stop}
use Rattle.tests_callers.specs.declared.servers.Echo.{Echo}
use Rattle.tests_callers.specs.declared.servers.Lamp.{Lamp}
use Rattle.tests_callers.specs.declared.servers.LampReply.{LampReply}
use Rattle.tests_callers.specs.declared.servers.LampReply.TheVariants.{Dark, Done, Lit, Unknown}

-- an echo replies with the line
abbrev pub echo_reply : Line → Reply
echo_reply line = line_reply line.body

-- to a line, an echo gives its reply and asks for the next line
abbrev pub EchoAnswers : Echo → Line → List Reply → Next → Echo → Type 0
EchoAnswers old input replies asked new = (replies ≡ echo_reply input ∷ []) × (asked ≡ next.Line)

-- at an error, an echo closes
abbrev pub EchoRefuses : Echo → LineError → List Reply → Next → Echo → Type 0
EchoRefuses old error replies asked new = asked ≡ next.Close

-- ---- a lamp

-- whether a lamp is lit after a line: `ON` lights it, `OFF` puts it out
abbrev pub lit_after : Bool → List ℕ → Bool
lit_after lit line = if bytes_eq line (codes "ON") then true else
    (if bytes_eq line (codes "OFF") then false else lit)

-- the reply of a lamp to a line: `SHOW` asks whether it is lit
abbrev pub reply_to : Bool → List ℕ → LampReply
reply_to lit line = if bytes_eq line (codes "ON") then Done else
    (if bytes_eq line (codes "OFF") then Done else
    (if bytes_eq line (codes "SHOW") then (if lit then Lit else Dark) else Unknown))

-- the line of a reply
abbrev pub reply_line : LampReply → List ℕ
reply_line Done = codes "ok"
reply_line Lit = codes "lit"
reply_line Dark = codes "dark"
reply_line Unknown = codes "what"

-- to a line, a lamp gives its reply and asks for a line
pub record LampAnswers (old : Lamp) (input : Line) (replies : List Reply) (asked : Next)
    (new : Lamp) : Type 0 where
  pub says : replies ≡ line_reply (reply_line (reply_to old.lit input.body)) ∷ []
  pub asks : asked ≡ next.Line
  pub lit : new.lit ≡ lit_after old.lit input.body

-- to a line at fault, it says so
pub record LampRefuses (old : Lamp) (error : LineError) (replies : List Reply) (asked : Next)
    (new : Lamp) : Type 0 where
  pub says : replies ≡ line_reply (codes "bad line") ∷ []
  pub asks : asked ≡ next.Line
  pub lit : new.lit ≡ old.lit

-- the replies of a lamp to these lines, one after another, of which `None` is one at fault
abbrev pub lamp_replies : Bool → List (Option (List ℕ)) → List Reply
lamp_replies lit [] = []
lamp_replies lit (None ∷ lines) = line_reply (codes "bad line") ∷ lamp_replies lit lines
lamp_replies lit (Some line ∷ lines) =
    line_reply (reply_line (reply_to lit line)) ∷ lamp_replies (lit_after lit line) lines

-- a conversation was held as `Serves` says, and its replies are those of a lamp to all that it was
-- given
pub record ServesLamp (old : ChannelState) (lamp : Lamp) (why : Stop) (new : ChannelState)
    (last : Lamp) : Type 0 where
  pub served : Serves LampAnswers LampRefuses old lamp why new last
  pub replies : said_in served.talk.steps ≡ lamp_replies lamp.lit (given_in served.talk.steps)

-- ---- the bytes of a conversation

module _ {H : Type 0} (answers : H → Line → List Reply → Next → H → Type 0)
    (refuses : H → LineError → List Reply → Next → H → Type 0) where
  -- a conversation over a channel took the bytes that came, step by step, and holds the others. An
  -- error of a step is one of the bytes that were left before it. After a line without an ending no
  -- byte is taken, and none is left
  pub record Accounts (old : ChannelState) (handler : H) (new : ChannelState) (last : H) : Type 0
    where
      pub talk : Talk answers refuses old handler new last
      pub bytes : old.talk.held ++ received_of talk.events ≡ bytes_of talk.steps ++ new.talk.held
      pub start : new.talk.start ≡ old.talk.start + length (bytes_of talk.steps)
      pub errors : (before : List Step) (error : LineError) (said : List Reply) (after : List Step)
          → talk.steps ≡ before ++ rejected error said ∷ after
          → Explains old.talk.endings old.talk.size talk.now
          (old.talk.start + length (bytes_of before)) (bytes_of after ++ new.talk.held) error
      pub unended : (before : List Step) (input : Line) (said : List Reply) (after : List Step)
          → talk.steps ≡ before ++ took input said ∷ after
          → (place left : Place H)
          × Turns answers refuses old.talk.endings old.talk.size talk.now
          (first_place old handler (received_of talk.events)) before place
          × IsTurn answers refuses old.talk.endings old.talk.size talk.now place
          (took input said) left
          × Turns answers refuses old.talk.endings old.talk.size talk.now left after
          (place_of new.talk last)
          × (place.awaited ≡ Input next.Line → input.ending ≡ Absent
          → TakesNothing after × (new.talk.held ≡ []))
