-- What a line writer writes, and the errors it returns.
use Rattle.std.specs.Prelude.{◌≡◌, ◌≤◌, ℕ, Bool, List, [], ◌∷◌, ◌++◌, length, Ok, Err, None, Some}
use Rattle.std.specs.Prelude.{true, false}
use Rattle.std.specs.Io.KnownBytes.{Appends}
use Rattle.std.specs.declared.result.Result.{Result}
use Rattle.ascii.specs.declared.ascii_str.AsciiStr.{AsciiStr}
use Rattle.ascii.specs.declared.iter.spans.Ending.{Ending}
use Rattle.ascii.specs.Lines.{Line, line_text}
use Rattle.ascii.specs.View.{text_of}
use Rattle.memchr.specs.Find.{IsFirstByte}
use Rattle.ascii.specs.Endings.{is_line_break}
use Rattle.ascii_devices.specs.Buffered.{OutputState, output_state}
use Rattle.ascii_devices.specs.Devices.{Grows, write_of}
use Rattle.ascii_devices.specs.declared.Sink.{Ghosts}
use Rattle.ascii_devices.specs.declared.log.Event.TheVariants.{Flushed}
use Rattle.ascii_lines.specs.Failures.{one_more}
use Rattle.ascii_lines.specs.WriteBuffer.{Passes, PassesPrefix}
use Rattle.ascii_lines.specs.declared.line_writer.WriteError.{WriteError}
use Rattle.ascii_lines.specs.declared.line_writer.WriteError.TheVariants.{LineBreak, Write}

-- what contracts see of a writer: its sink; and its state, which is that of the sink with the
-- writer's buffer before it: the bytes that it has taken, if they are known; how many of its calls
-- have failed; its history, if it is kept, and its other direction; the bytes that were written and
-- that it has not taken yet; the size of the buffer; and whether a call failed, so that nothing
-- more is written
pub record Writing (K : Type 0) : Type 0 where
  pub sink : K
  pub state : OutputState

-- the state of a new writer with a buffer of `size` bytes over a sink
abbrev pub fresh_writer : {K : Type 0} → ℕ → Ghosts K → K → OutputState
fresh_writer size says sink =
    output_state says sink (record { bytes = []; size = size; is_broken = false })

-- the bytes that a writer holds fit in its buffer
abbrev pub FitsBuffer : {K : Type 0} → Writing K → Type 0
FitsBuffer writer = length writer.state.buffer.bytes ≤ writer.state.buffer.size

-- no call of the writer has returned `Write`
abbrev pub IsReady : {K : Type 0} → Writing K → Type 0
IsReady writer = writer.state.buffer.is_broken ≡ false

-- a body and an ending as a line
abbrev pub line_with : AsciiStr → Ending → Line
line_with body ending = record { body = text_of body; ending = ending }

-- from the state `old` to the state `new` the bytes were written, and no call of the sink failed:
-- of the bytes held before and then `bytes`, the sink took a prefix, and the writer holds the
-- others; its history has that prefix as sent
pub record WritesBytes (old new : OutputState) (bytes : List ℕ) : Type 0 where
  pub passed : Passes old new bytes
  pub failures : new.failures ≡ old.failures
  pub aside : new.aside ≡ old.aside
  pub stage : new.buffer.is_broken ≡ false
  pub size : new.buffer.size ≡ old.buffer.size

-- a call of the sink failed while the bytes were written: of the bytes held before and then
-- `bytes`, the sink took a prefix. One more failure is counted, unless there were 2 ^ 64 - 1
pub record FailsToWrite (old new : OutputState) (bytes : List ℕ) : Type 0 where
  pub passed : PassesPrefix old new bytes
  pub failures : new.failures ≡ one_more old.failures
  pub aside : new.aside ≡ old.aside
  pub stage : new.buffer.is_broken ≡ true
  pub size : new.buffer.size ≡ old.buffer.size

-- the sink took all bytes that were held and was then flushed, the writer holds none, and no call
-- of the sink failed
pub record Flushes (old new : OutputState) : Type 0 where
  pub took : Appends old.taken new.taken old.buffer.bytes
  pub told : Grows old.history new.history (write_of old.buffer.bytes ++ Flushed ∷ [])
  pub none : new.buffer.bytes ≡ []
  pub failures : new.failures ≡ old.failures
  pub aside : new.aside ≡ old.aside
  pub stage : new.buffer.is_broken ≡ false
  pub size : new.buffer.size ≡ old.buffer.size

-- what writing bytes does. `Ok`: they were written. `Err`, always `Write`: a call of the sink
-- failed
abbrev pub Writes : OutputState → List ℕ → Result (Unit {0}) WriteError → OutputState → Type 0
Writes old bytes (Ok _) new = WritesBytes old new bytes
Writes old bytes (Err error) new = (error ≡ Write) × FailsToWrite old new bytes

-- what writing a line does, by whether a call of the sink had failed before. `Ok`: no code of the
-- body is CR or LF, and the line was written. `LineBreak`: the position of the first CR or LF of
-- the body, and nothing was changed. `Write`: a call of the sink failed. If one had failed before,
-- the error is `Write`, and nothing is changed
abbrev pub WritesLineFrom : {K : Type 0} → Bool
    → Writing K → Line → Result (Unit {0}) WriteError → Writing K → Type 0
WritesLineFrom false old line (Ok _) new = IsFirstByte is_line_break line.body None
    × WritesBytes old.state new.state (line_text line)
WritesLineFrom false old line (Err (LineBreak k)) new =
    IsFirstByte is_line_break line.body (Some k) × (new ≡ old)
WritesLineFrom false old line (Err Write) new = IsFirstByte is_line_break line.body None
    × FailsToWrite old.state new.state (line_text line)
WritesLineFrom true old line result new = (result ≡ Err Write) × (new ≡ old)

-- what writing a line does
abbrev pub WritesLine
    : {K : Type 0} → Writing K → Line → Result (Unit {0}) WriteError → Writing K → Type 0
WritesLine old line result new = WritesLineFrom old.state.buffer.is_broken old line result new

-- what writing a part does, by whether a call of the sink had failed before: `Writes` of its bytes.
-- If one had failed before, the error is `Write`, and nothing is changed
abbrev pub WritesPartFrom : {K : Type 0} → Bool
    → Writing K → List ℕ → Result (Unit {0}) WriteError → Writing K → Type 0
WritesPartFrom false old part result new = Writes old.state part result new.state
WritesPartFrom true old part result new = (result ≡ Err Write) × (new ≡ old)

-- what writing a part does
abbrev pub WritesPart
    : {K : Type 0} → Writing K → List ℕ → Result (Unit {0}) WriteError → Writing K → Type 0
WritesPart old part result new = WritesPartFrom old.state.buffer.is_broken old part result new

-- what a flush does, by whether a call of the sink had failed before. `Ok`: `Flushes`. `Err`,
-- always `Write`: a call of the sink failed, or one had failed before, and then nothing is changed
abbrev pub FlushesFrom : {K : Type 0} → Bool
    → Writing K → Result (Unit {0}) WriteError → Writing K → Type 0
FlushesFrom false old (Ok _) new = Flushes old.state new.state
FlushesFrom false old (Err error) new = (error ≡ Write) × FailsToWrite old.state new.state []
FlushesFrom true old result new = (result ≡ Err Write) × (new ≡ old)

-- what a flush does
abbrev pub FlushesOutcome
    : {K : Type 0} → Writing K → Result (Unit {0}) WriteError → Writing K → Type 0
FlushesOutcome old result new = FlushesFrom old.state.buffer.is_broken old result new
