-- A message, and the state of the session that receives it.
use Rattle.std.specs.Prelude.{◌≡◌, ◌==◌, ◌≤◌, ◌+◌, ◌-◌, ◌^◌, ℕ, List, [], ◌∷◌, ◌++◌, None, codes}
use Rattle.std.specs.Prelude.{if◌then◌else◌, length, map, min}
use Rattle.std.specs.List.{flat_map}
use Rattle.std.specs.declared.option.Option.{Option}
use Rattle.ascii.specs.Endings.{is_line_break}
use Rattle.ascii.specs.StringState.{StringState}
use Rattle.memchr.specs.Find.{IsFirstByte}
use Rattle.example_smtp.specs.Folder.{Contents, StoresIn}
use Rattle.example_smtp.specs.declared.session.Fault.{Fault}
use Rattle.example_smtp.specs.declared.message.Message.{Message}
use Rattle.example_smtp.specs.declared.session.Stage.{Stage}

-- a message: how its client introduced itself, its sender, its recipients and its text
pub record Mail : Type 0 where
  pub client : List ℕ
  pub sender : List ℕ
  pub recipients : List (List ℕ)
  pub text : List ℕ

-- a line of a message with dot-stuffing undone: without its first dot, if it begins with one
abbrev pub unstuffed : List ℕ → List ℕ
unstuffed [] = []
unstuffed (code ∷ rest) = if code == 46 then rest else code ∷ rest

-- the text of a message of these lines: each with dot-stuffing undone, and with CR LF
abbrev pub text_of_lines : List (List ℕ) → List ℕ
text_of_lines lines = flat_map (λ line. unstuffed line ++ 13 ∷ 10 ∷ []) lines

-- the line of a file that says whom the mail comes from, and one that says whom it goes to
abbrev pub return_path : List ℕ → List ℕ
return_path sender = codes "Return-Path: <" ++ (sender ++ (codes ">" ++ 13 ∷ 10 ∷ []))

abbrev pub delivered_to : List ℕ → List ℕ
delivered_to recipient = codes "Delivered-To: " ++ (recipient ++ 13 ∷ 10 ∷ [])

-- the text has no CR and no LF
abbrev pub IsUnbroken : List ℕ → Type 0
IsUnbroken text = IsFirstByte is_line_break text None

-- the line of a file that says from which client and when the mail came
abbrev pub received_at : List ℕ → List ℕ → List ℕ
received_at client date = codes "Received: from "
    ++ (client ++ (codes " by localhost; " ++ (date ++ 13 ∷ 10 ∷ [])))

-- the lines that say whom a mail comes from, and whom it goes to
abbrev pub address_lines : Mail → List ℕ
address_lines mail = return_path mail.sender ++ flat_map delivered_to mail.recipients

-- the lines before the text in the file of a message that came at this time
abbrev pub envelope_of : List ℕ → Mail → List ℕ
envelope_of date mail = address_lines mail ++ received_at mail.client date

-- the file of a message that came at this time
abbrev pub file_of : List ℕ → Mail → List ℕ
file_of date mail = envelope_of date mail ++ mail.text

-- the state of a session: what it awaits, the message that was begun, the first fault in its lines,
-- if there is one, at how many errors more the client is left, how many messages were received, and
-- what is in its folder, if it has one
pub record State : Type 0 where
  pub stage : Stage
  pub draft : Mail
  pub fault : Option Fault
  pub left : ℕ
  pub count : ℕ
  pub folder : Option Contents

-- the texts of strings
abbrev pub string_texts : List StringState → List (List ℕ)
string_texts strings = map (λ string. string.text) strings

-- the texts of a message
abbrev pub mail_of : Message → Mail
mail_of message = record {
  client = message.client.text;
  sender = message.sender.text;
  recipients = string_texts message.recipients.items;
  text = message.text.text;
}

-- a message of this client with nothing in it
abbrev pub no_mail : List ℕ → Mail
no_mail client = record { client = client; sender = []; recipients = []; text = [] }

-- no message of this client was begun
abbrev pub idle : Stage → List ℕ → ℕ → ℕ → Option Contents → State
idle stage client left count folder = record {
  stage = stage;
  draft = no_mail client;
  fault = None;
  left = left;
  count = count;
  folder = folder;
}

-- the most messages that are counted
abbrev pub most_count : ℕ
most_count = 2 ^ 64 - 1

-- between two states mails of these bytes were stored, in order, and counted
abbrev pub Keeps : State → List (List ℕ) → State → Type 0
Keeps old mails new = StoresIn old.folder mails new.folder
    × (old.count ≤ most_count → new.count ≡ min (old.count + length mails) most_count)
