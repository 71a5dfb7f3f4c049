-- The replies of a handler, where they go, and what happens in a conversation at one time.
use Rattle.std.specs.Prelude.{◌≡◌, ◌≢◌, ◌⊎◌, ◌<◌, ℕ, List, [], ◌∷◌, ◌++◌, Bool, ⊤}
use Rattle.std.specs.Prelude.{Err, None, Ok, Some, false, length, not, true}
use Rattle.std.specs.List.{flat_map, list_all}
use Rattle.std.specs.declared.result.Result.{Result}
use Rattle.ascii.specs.Endings.{IsFirstStop, is_line_break}
use Rattle.ascii.specs.Lines.{Line, LinesEndedBy, ending_text, line_text}
use Rattle.ascii.specs.declared.iter.spans.Ending.{Ending}
use Rattle.ascii.specs.declared.iter.spans.Ending.TheVariants.{Absent}
use Rattle.memchr.specs.Find.{IsFirstByte}
use Rattle.ascii_devices.specs.Buffered.{OutputState}
use Rattle.ascii_lines.specs.LineWriter.{FailsToWrite, WritesBytes}
use Rattle.ascii_lines.specs.declared.line_reader.LineError.{LineError}
use Rattle.ascii_lines.specs.declared.serving.Next.{Next}
use Rattle.ascii_lines.specs.declared.serving.Next.TheVariants as next
use Rattle.ascii_lines.specs.declared.wanted.Wanted.{Wanted}
use Rattle.ascii_lines.specs.declared.wanted.Wanted.TheVariants as wanted

-- ---- replies

-- what contracts see of a writer of replies: its device; the state of that with the buffer before
-- it; and the ending of its lines
pub record Saying (K : Type 0) : Type 0 where
  pub sink : K
  pub state : OutputState
  pub ending : Ending

-- a reply of a handler: a line without its ending, or a part
pub data Reply : Type 0 where
  line_reply : List ℕ → Reply
  part_reply : List ℕ → Reply

-- the bytes of a reply, of which a line has this ending
abbrev pub reply_text : Ending → Reply → List ℕ
reply_text ending (line_reply body) = body ++ ending_text ending
reply_text ending (part_reply text) = text

-- the bytes of replies, in order
abbrev pub reply_bytes : Ending → List Reply → List ℕ
reply_bytes ending replies = flat_map (reply_text ending) replies

-- bytes were written, by whether a call of the device had failed before: they were; or a call
-- failed before all of them went out; or one had failed before, and nothing is changed
abbrev pub SaysBytes : Bool → OutputState → List ℕ → OutputState → Type 0
SaysBytes false old bytes new = WritesBytes old new bytes ⊎ FailsToWrite old new bytes
SaysBytes true old bytes new = new ≡ old

-- these replies were given, in order
abbrev pub Says : {K : Type 0} → Saying K → List Reply → Saying K → Type 0
Says old replies new = SaysBytes old.state.buffer.is_broken old.state
    (reply_bytes old.ending replies) new.state × (new.ending ≡ old.ending)

-- no code of the text is CR or LF
abbrev pub is_unbroken : List ℕ → Bool
is_unbroken text = list_all (λ code. not (is_line_break code)) text

-- the outcome of giving a line. `Ok`: it has no CR and no LF. `Err`: the index of its first CR or
-- LF, and nothing is changed
abbrev pub IsLineOutcome
    : {K : Type 0} → Saying K → List ℕ → Result (Unit {0}) ℕ → Saying K → Type 0
IsLineOutcome old body (Ok _) new = IsFirstByte is_line_break body None
IsLineOutcome old body (Err k) new = IsFirstByte is_line_break body (Some k) × (new ≡ old)

-- the replies that are given with a line, by its outcome: that line, or none
abbrev pub line_given : List ℕ → Result (Unit {0}) ℕ → List Reply
line_given body (Ok _) = line_reply body ∷ []
line_given body (Err _) = []

-- the part was given
abbrev pub SaysPart : {K : Type 0} → Saying K → List ℕ → Saying K → Type 0
SaysPart old text new = Says old (part_reply text ∷ []) new

-- ---- one step

-- what is asked for has a byte at least: a line has, and a part is to be of one byte or more
abbrev pub IsRequest : Next → Type 0
IsRequest (next.Part n) = 0 < n
IsRequest (next.Bytes n) = 0 < n
IsRequest other = ⊤

-- what happened in a conversation at one time. `took`: the handler was given a line or a part, and
-- gave replies. `rejected`: it was told of an error in place of what it asked for, and gave
-- replies. `skipped`: bytes of a line that was rejected were read over; or none, and the
-- conversation stopped. `sent_out`: the handler had asked for the next line once the replies were
-- sent, and they were
pub data Step : Type 0 where
  took : Line → List Reply → Step
  rejected : LineError → List Reply → Step
  skipped : List ℕ → Step
  sent_out : Step

-- whether a read had returned no bytes before `others` came, if `is_at_end` tells whether one has
-- after them: none had if a byte came
abbrev pub at_end_before : List ℕ → Bool → Bool
at_end_before [] is_at_end = is_at_end
at_end_before (byte ∷ others) is_at_end = false

-- the line or part of these bytes. A line has an ending if the bytes end where one does
abbrev pub IsInputOf : Wanted → List ℕ → Line → Type 0
IsInputOf (wanted.Line endings content) bytes input =
    LinesEndedBy endings bytes (input ∷ []) × (line_text input ≡ bytes)
    × (IsFirstStop endings bytes (length bytes) → input.ending ≢ Absent)
IsInputOf wanted bytes input = (input.body ≡ bytes) × (input.ending ≡ Absent)
