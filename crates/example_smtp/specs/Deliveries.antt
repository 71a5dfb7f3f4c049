-- The messages that a whole session delivers, told from its lines and the replies to them.
use Rattle.std.specs.Prelude.{◌≡◌, ◌≢◌, ◌⊎◌, ℕ, List, [], ◌∷◌, ◌++◌, None, Some, codes, map}
use Rattle.std.specs.declared.option.Option.{Option}
use Rattle.ascii_devices.specs.Devices.{Grows, received_of}
use Rattle.ascii_devices.specs.declared.log.Event.{Event}
use Rattle.ascii_lines.specs.Exchanges.{bytes_of, given_in, said_in}
use Rattle.ascii_lines.specs.Replies.{Step, rejected, reply_bytes, took}
use Rattle.ascii_lines.specs.Serve.{AreSentFirst, ChannelState, Wrote}
use Rattle.ascii_lines.specs.declared.serving.Stop.{Stop}
use Rattle.example_smtp.specs.Commands.{Says}
use Rattle.example_smtp.specs.Mail.{IsUnbroken, Keeps, Mail, State, file_of, no_mail, text_of_lines}
use Rattle.example_smtp.specs.Session.{envelope_after, reply_lines}
use Rattle.example_smtp.specs.declared.commands.Command.{Command}
use Rattle.example_smtp.specs.declared.commands.Reply.{Reply}
use Rattle.example_smtp.specs.declared.commands.Reply.TheVariants.{CutOff, Done, Extensions, Received, SendLines}

-- ---- messages

-- a line, or `None` for one that was rejected, and the reply to it, if there is one
pub record Exchange : Type 0 where
  pub line : Option (List ℕ)
  pub reply : Option Reply

-- what an exchange is to a message: it begins one, is a line of it, delivers it, or is outside one
pub data Part : Type 0 where
  begins : Part
  goes_on : Part
  delivers : Part
  ends : Part

-- what an exchange with this reply is: 354 begins a message, a line of it is not answered, and the
-- 250 for it delivers it
abbrev pub part_of : Option Reply → Part
part_of None = goes_on
part_of (Some SendLines) = begins
part_of (Some Received) = delivers
part_of (Some other) = ends

-- the lines that were sent of a message
abbrev pub Sent : Type 0
Sent = List (Option (List ℕ))

-- what was sent of a message that is begun, if one is, after an exchange with this line
abbrev pub begun_after : Part → Option Sent → Option (List ℕ) → Option Sent
begun_after begins begun line = Some []
begun_after goes_on (Some sent) line = Some (sent ++ line ∷ [])
begun_after other begun line = None

-- `text` is that of the lines `sent`, of which none was rejected
abbrev pub IsText : Sent → List ℕ → Type 0
IsText sent text = (lines : List (List ℕ)) × (sent ≡ map Some lines)
    × (text ≡ text_of_lines lines)

-- the envelope after an exchange: outside a message, that after the command that the line says, if
-- the reply is 250; nothing but the client after a line that was cut off. A message has it to its
-- end
abbrev pub Addresses : Option Sent → Mail → Option (List ℕ) → Option Reply → Mail → Type 0
Addresses None old (Some line) (Some Done) new =
    (command : Command) × Says line command × (new ≡ envelope_after old command)
Addresses None old (Some line) (Some Extensions) new =
    (command : Command) × Says line command × (new ≡ envelope_after old command)
Addresses None old line (Some CutOff) new = new ≡ no_mail old.client
Addresses None old line said new = new ≡ old
Addresses (Some sent) old line None new = new ≡ old
Addresses (Some sent) old line (Some said) new = new ≡ no_mail old.client

-- the mails that an exchange with this line delivers: one, if it is a dot after the lines of a
-- message, with this envelope, a date without a break, and the text of these; no other exchange does
abbrev pub Brings : Part → Option Sent → Mail → Option (List ℕ) → List (List ℕ) → Type 0
Brings delivers (Some sent) envelope line mails = (text : List ℕ) × (date : List ℕ)
    × IsText sent text × IsUnbroken date
    × (mails ≡ file_of date (record envelope { text = text }) ∷ []) × (line ≡ Some (codes "."))
Brings delivers None envelope line mails = ⊥
Brings goes_on (Some sent) envelope line mails = (mails ≡ []) × (line ≢ Some (codes "."))
Brings other begun envelope line mails = mails ≡ []

-- the mails that exchanges deliver, after what was sent of a message, if one is begun, and this
-- envelope
abbrev pub Delivers : Option Sent → Mail → List Exchange → List (List ℕ) → Type 0
Delivers begun envelope [] mails = mails ≡ []
Delivers begun envelope (exchange ∷ exchanges) mails =
    (first : List (List ℕ)) × (others : List (List ℕ)) × (after : Mail) × (mails ≡ first ++ others)
    × Brings (part_of exchange.reply) begun envelope exchange.line first
    × Addresses begun envelope exchange.line exchange.reply after
    × Delivers (begun_after (part_of exchange.reply) begun exchange.line) after exchanges others

-- ---- the whole session

-- the session was given nothing after the steps `before`; or the events of the channel begin with
-- some that sent and flushed all replies of these and no others
abbrev pub IsSentFirst : ChannelState → List Event → List Step → List Step → Type 0
IsSentFirst first events before after =
    (given_in after ≡ []) ⊎ AreSentFirst first events before

-- the exchanges of the steps of a conversation, which come after the steps `past`; the 250 for a
-- message was sent first. The bytes that are read over belong to none
abbrev pub AreExchanges
    : ChannelState → List Event → List Step → List Step → List Exchange → Type 0
AreExchanges first events past [] exchanges = exchanges ≡ []
AreExchanges first events past (took input replies ∷ steps) exchanges =
    (said : Option Reply) × (others : List Exchange) × (replies ≡ reply_lines said)
    × (exchanges ≡ record { line = Some input.body; reply = said } ∷ others)
    × (said ≡ Some Received → IsSentFirst first events (past ++ took input replies ∷ []) steps)
    × AreExchanges first events (past ++ took input replies ∷ []) steps others
AreExchanges first events past (rejected error replies ∷ steps) exchanges =
    (said : Option Reply) × (others : List Exchange) × (replies ≡ reply_lines said)
    × (exchanges ≡ record { line = None; reply = said } ∷ others)
    × AreExchanges first events (past ++ rejected error replies ∷ []) steps others
AreExchanges first events past (other ∷ steps) exchanges =
    AreExchanges first events (past ++ other ∷ []) steps exchanges

-- a session was held over a channel, step by step: what came was taken, and the replies were written
-- after what the channel held, or a prefix if the device failed. The folder has stored the messages
-- that the exchanges deliver, and nothing else, and they are counted
pub record Receives (old : ChannelState) (session : State) (why : Stop) (new : ChannelState)
    (last : State) : Type 0 where
  pub steps : List Step
  pub events : List Event
  pub happened : Grows old.output.history new.output.history events
  pub came : old.talk.held ++ received_of events ≡ bytes_of steps ++ new.talk.held
  pub wrote : Wrote why old.output events
      (old.output.buffer.bytes ++ reply_bytes old.ending (said_in steps)) new.output
  pub exchanges : List Exchange
  pub are : AreExchanges old events [] steps exchanges
  pub mails : List (List ℕ)
  pub delivers : Delivers None (no_mail []) exchanges mails
  pub stored : Keeps session mails last
