-- The state of a line reader, and what its calls return and leave.
use Rattle.std.specs.Prelude.{◌<◌, ◌^◌, ◌≡◌, ◌≢◌, ◌⊎◌, ℕ, ◌+◌, ◌≤◌, Bool, true}
use Rattle.std.specs.Prelude.{false, List, [], ◌∷◌}
use Rattle.std.specs.Prelude.{◌++◌, nat_lt, length, take, Ok, Err, None}
use Rattle.std.specs.Prelude.{Some, ⊤}
use Rattle.std.specs.Io.KnownBytes.{IsAtEnd}
use Rattle.std.specs.List.{All}
use Rattle.std.specs.declared.option.Option.{Option}
use Rattle.std.specs.declared.result.Result.{Result}
use Rattle.ascii.specs.declared.ascii_str.AsciiStr.{AsciiStr}
use Rattle.ascii.specs.declared.iter.spans.Ending.TheVariants.{Absent}
use Rattle.ascii.specs.declared.iter.spans.Endings.{Endings}
use Rattle.ascii.specs.Bytes.{FirstOther}
use Rattle.ascii.specs.Endings.{IsFirstStop}
use Rattle.ascii.specs.Lines.{Line}
use Rattle.ascii.specs.Spans.{LineSpansEndedBy, WithStart}
use Rattle.ascii.specs.View.{text_of}
use Rattle.ascii_devices.specs.States.{Gives, SourceState, of_state, source_state}
use Rattle.ascii_devices.specs.declared.Source.{Ghosts}
use Rattle.ascii_lines.specs.LineBuffer.{WindowState}
use Rattle.ascii_lines.specs.Wanted.{Delivers, EndsAt, IsOne, LacksUpTo, MayHave}
use Rattle.ascii_lines.specs.Wanted.{MayBeLast, MustRead, Refuses, Rejects}
use Rattle.ascii_lines.specs.declared.line_reader.LineError.{LineError}
use Rattle.ascii_lines.specs.declared.line_reader.LineError.TheVariants.{Incomplete, Read}
use Rattle.ascii_lines.specs.declared.line_reader.ReadBytes.{ReadBytes}
use Rattle.ascii_lines.specs.declared.line_reader.ReadLine.{ReadLine}
use Rattle.ascii_lines.specs.declared.line_reader.ReadPart.{ReadPart}
use Rattle.ascii_lines.specs.declared.line_reader.Stage.{Stage}
use Rattle.ascii_lines.specs.declared.line_reader.Stage.TheVariants.{Open, Ended, Refused}
use Rattle.ascii_lines.specs.declared.wanted.Found.{Found}
use Rattle.ascii_lines.specs.declared.wanted.Content.TheVariants.{Any, Text}
use Rattle.ascii_lines.specs.declared.wanted.Wanted.{Wanted}
use Rattle.ascii_lines.specs.declared.wanted.Wanted.TheVariants as wanted

-- the state of a reader: the size of its buffer, in bytes; the position in the input at which the
-- next line or part starts; the bytes from there on that it has read; whether it goes on; which
-- endings end its lines; whether a read of its source has returned no bytes, after which it is not
-- read again; and what its source says of itself
pub record ReaderState : Type 0 where
  pub size : ℕ
  pub start : ℕ
  pub held : List ℕ
  pub stage : Stage
  pub endings : Endings
  pub is_at_end : Bool
  pub device : SourceState

-- what contracts see of a reader: its source; its state; and the bytes that it has given up last:
-- those of the line or part that it lent, ending included, or some that were skipped
pub record Reading (S : Type 0) : Type 0 where
  pub source : S
  pub state : ReaderState
  pub lent : List ℕ

-- where a reader is in its input: `ReaderState` without its source, and the bytes that it has given
-- up last
pub record CursorState : Type 0 where
  pub size : ℕ
  pub start : ℕ
  pub held : List ℕ
  pub stage : Stage
  pub endings : Endings
  pub is_at_end : Bool
  pub lent : List ℕ

-- the state of a reader, by where it is and by what its source says of itself
abbrev pub state_at : CursorState → SourceState → ReaderState
state_at cursor device = record {
  size = cursor.size;
  start = cursor.start;
  held = cursor.held;
  stage = cursor.stage;
  endings = cursor.endings;
  is_at_end = cursor.is_at_end;
  device = device;
}

-- what contracts see of a reader, by where it is and by its source
abbrev pub reading_at : {S : Type 0} → Ghosts S → CursorState → S → Reading S
reading_at says cursor source = record {
  source = source;
  state = state_at cursor (source_state says source);
  lent = cursor.lent;
}

-- where a new reader is
abbrev pub fresh_cursor : ℕ → Endings → CursorState
fresh_cursor size endings = record {
  size = size;
  start = 0;
  held = [];
  stage = Open;
  endings = endings;
  is_at_end = false;
  lent = [];
}

-- the state of a new reader: it has read nothing
abbrev pub fresh_reader : ℕ → Endings → SourceState → ReaderState
fresh_reader size endings device = state_at (fresh_cursor size endings) device

-- a state in which these endings end the lines, and which is otherwise unchanged
abbrev pub ended_by : Endings → ReaderState → ReaderState
ended_by endings reading = record reading { endings = endings }

-- the reader goes on: it has not returned `None`, a line or text without an ending, or an error; or,
-- after the error, a line was skipped up to its ending
abbrev pub IsOpen : {S : Type 0} → Reading S → Type 0
IsOpen reader = reader.state.stage ≡ Open

-- a `ReadLine` as a line with its start
abbrev pub read_line_in : ReadLine → WithStart Line
read_line_in line =
    record { start = line.start; item = record { body = text_of line.text; ending = line.ending } }

-- a `ReadBytes` as a line with its start
abbrev pub read_bytes_in : ReadBytes → WithStart Line
read_bytes_in line =
    record { start = line.start; item = record { body = line.bytes.now; ending = line.ending } }

-- ---- one line or part

-- the reader has ended: it holds no bytes, and a read of its source has returned none, which is at
-- its end
pub record IsDone (reading : ReaderState) : Type 0 where
  pub ended : reading.stage ≡ Ended
  pub seen : reading.is_at_end ≡ true
  pub none : reading.held ≡ []
  pub left : IsAtEnd reading.device.rest

-- from the state `old` to the state `new` the reader returned `bytes`, which may be in what was
-- wanted and fit in its buffer: of the bytes held before and those read since they are the first,
-- and the others are held
pub record Takes (wanted : Wanted) (old : ReaderState) (bytes : List ℕ) (new : ReaderState)
    : Type 0 where
  pub delivers : Delivers wanted old.start old.size old.held old.is_at_end new.is_at_end old.device
      new.device bytes new.held
  pub start : new.start ≡ old.start + length bytes
  pub in_range : new.start < 2 ^ 64
  pub size : new.size ≡ old.size
  pub endings : new.endings ≡ old.endings

-- the reader stopped at this error in place of what was wanted. It holds all bytes that it has read
-- from the start of the line or part on, which is still its position; nothing else has changed
pub record StopsAt (wanted : Wanted) (old : ReaderState) (error : LineError) (new : ReaderState)
    : Type 0 where
  pub refuses : Refuses wanted old.start old.size old.held old.is_at_end new.is_at_end old.device
      new.device new.held error
  pub stage : new.stage ≡ Refused error
  pub start : new.start ≡ old.start
  pub size : new.size ≡ old.size
  pub endings : new.endings ≡ old.endings

-- the reader returned one line, of which `bytes` are all, ending included: either the line has an
-- ending, and the reader is open; or the reader has ended
pub record TakesLine (wanted : Wanted) (old : ReaderState) (line : WithStart Line)
    (new : ReaderState) : Type 0 where
  pub bytes : List ℕ
  pub takes : Takes wanted old bytes new
  pub exact : LineSpansEndedBy old.endings old.start bytes (line ∷ [])
  pub whole : ((new.stage ≡ Open) × (line.item.ending ≢ Absent)) ⊎ IsDone new

-- what an open reader returns. `Some`: the next line, which fits in the buffer. `None`: there are
-- no more lines, and the reader has ended. `Err`: the reader has stopped, and why
abbrev pub YieldsLine
    : Wanted → ReaderState → Result (Option (WithStart Line)) LineError → ReaderState → Type 0
YieldsLine wanted old (Ok (Some line)) new = TakesLine wanted old line new
YieldsLine wanted old (Ok None) new = Takes wanted old [] new × IsDone new
YieldsLine wanted old (Err error) new = StopsAt wanted old error new

-- what an open reader returns for a part of `n` bytes. `Ok`: the next `n` bytes with their start,
-- and the reader is open. `Err`: the reader has stopped, and why
abbrev pub YieldsPart : ℕ → ReaderState → Result ReadPart LineError → ReaderState → Type 0
YieldsPart n old (Ok part) new = Takes (wanted.Part n Text) old (text_of part.text) new
    × (length (text_of part.text) ≡ n) × (part.start ≡ old.start) × (new.stage ≡ Open)
YieldsPart n old (Err error) new = StopsAt (wanted.Part n Text) old error new

-- the reader returned one text without `code`: either the code comes after it, and the reader is
-- open; or the text is the last of the input, and the reader has ended
pub record TakesText (code : ℕ) (old : ReaderState) (part : ReadPart) (new : ReaderState)
    : Type 0 where
  pub start : part.start ≡ old.start
  pub free : LacksUpTo (wanted.Until code) (text_of part.text) (length (text_of part.text))
  pub whole : (Takes (wanted.Until code) old (text_of part.text ++ code ∷ []) new
      × (new.stage ≡ Open))
      ⊎ (Takes (wanted.Until code) old (text_of part.text) new × (text_of part.text ≢ [])
      × IsDone new)

-- what an open reader returns of a text up to `code`. `Some`: the next text, which fits in the
-- buffer with the code. `None`: there are no more bytes, and the reader has ended. `Err`: the
-- reader has stopped, and why
abbrev pub YieldsText
    : ℕ → ReaderState → Result (Option ReadPart) LineError → ReaderState → Type 0
YieldsText code old (Ok (Some part)) new = TakesText code old part new
YieldsText code old (Ok None) new = Takes (wanted.Until code) old [] new × IsDone new
YieldsText code old (Err error) new = StopsAt (wanted.Until code) old error new

-- a result of `next_line` as a line with its start
abbrev pub line_result
    : Result (Option ReadLine) LineError → Result (Option (WithStart Line)) LineError
line_result (Ok (Some line)) = Ok (Some (read_line_in line))
line_result (Ok None) = Ok None
line_result (Err error) = Err error

-- what a reader at a stage returns. At `Open`, `YieldsLine` says what. At `Ended` it returns
-- `None`, at `Refused` the error that it returned before, and then reader and source are unchanged
abbrev pub NextFrom : {S : Type 0}
    → Stage → Reading S → Result (Option ReadLine) LineError → Reading S → Type 0
NextFrom Open old result new =
    YieldsLine (wanted.Line old.state.endings Text) old.state (line_result result) new.state
NextFrom Ended old result new = (result ≡ Ok None) × (new ≡ old)
NextFrom (Refused error) old result new = (result ≡ Err error) × (new ≡ old)

-- what a reader returns, by its stage
abbrev pub Next : {S : Type 0}
    → Reading S → Result (Option ReadLine) LineError → Reading S → Type 0
Next old result new = NextFrom old.state.stage old result new

-- a result of `next_bytes` as a line with its start
abbrev pub bytes_result
    : Result (Option ReadBytes) LineError → Result (Option (WithStart Line)) LineError
bytes_result (Ok (Some line)) = Ok (Some (read_bytes_in line))
bytes_result (Ok None) = Ok None
bytes_result (Err error) = Err error

-- the text of a line as bytes: a view of them if all are ASCII; otherwise the position in the input
-- of the first that is not
abbrev pub TextOf : ℕ → List ℕ → Result AsciiStr ℕ → Type 0
TextOf start bytes (Ok view) = text_of view ≡ bytes
TextOf start bytes (Err place) =
    (i : ℕ) × (place ≡ start + i) × FirstOther bytes 0 (length bytes) i

-- the text of a result of `next_bytes`
abbrev pub HasText : Result (Option ReadBytes) LineError → Type 0
HasText (Ok (Some line)) = TextOf line.start line.bytes.now line.text
HasText other = ⊤

-- what a reader at a stage returns as bytes: as `NextFrom`, where a line may have any bytes
abbrev pub NextBytesFrom : {S : Type 0}
    → Stage → Reading S → Result (Option ReadBytes) LineError → Reading S → Type 0
NextBytesFrom Open old result new =
    YieldsLine (wanted.Line old.state.endings Any) old.state (bytes_result result) new.state
    × HasText result
NextBytesFrom Ended old result new = (result ≡ Ok None) × (new ≡ old)
NextBytesFrom (Refused error) old result new = (result ≡ Err error) × (new ≡ old)

-- what a reader returns as bytes, by its stage
abbrev pub NextBytes : {S : Type 0}
    → Reading S → Result (Option ReadBytes) LineError → Reading S → Type 0
NextBytes old result new = NextBytesFrom old.state.stage old result new

-- what a reader at a stage returns for a part of `n` bytes. At `Open`, `YieldsPart` says what. At
-- `Ended` it returns `Incomplete 0`, at `Refused` the error that it returned before, and then
-- reader and source are unchanged
abbrev pub NextPartFrom : {S : Type 0}
    → Stage → ℕ → Reading S → Result ReadPart LineError → Reading S → Type 0
NextPartFrom Open n old result new = YieldsPart n old.state result new.state
NextPartFrom Ended n old result new = (result ≡ Err (Incomplete 0)) × (new ≡ old)
NextPartFrom (Refused error) n old result new = (result ≡ Err error) × (new ≡ old)

-- what a reader returns for a part of `n` bytes, by its stage
abbrev pub NextPart : {S : Type 0}
    → ℕ → Reading S → Result ReadPart LineError → Reading S → Type 0
NextPart n old result new = NextPartFrom old.state.stage n old result new

-- what a reader at a stage returns of a text up to `code`. At `Open`, `YieldsText` says what. At
-- `Ended` it returns `None`, at `Refused` the error that it returned before, and then reader and
-- source are unchanged
abbrev pub NextTextFrom : {S : Type 0}
    → Stage → ℕ → Reading S → Result (Option ReadPart) LineError → Reading S → Type 0
NextTextFrom Open code old result new = YieldsText code old.state result new.state
NextTextFrom Ended code old result new = (result ≡ Ok None) × (new ≡ old)
NextTextFrom (Refused error) code old result new = (result ≡ Err error) × (new ≡ old)

-- what a reader returns of a text up to `code`, by its stage
abbrev pub NextText : {S : Type 0}
    → ℕ → Reading S → Result (Option ReadPart) LineError → Reading S → Type 0
NextText code old result new = NextTextFrom old.state.stage code old result new

-- ---- one line after another

-- `text` is the bytes that were held in the state `old`, and after them those that the source has
-- given up to the state `new`
abbrev pub IsHeldThenRead : ReaderState → ReaderState → List ℕ → Type 0
IsHeldThenRead old new text =
    (read : List ℕ) × Gives of_state old.device new.device read × (text ≡ old.held ++ read)

-- from the state `old` to the state `new` the reader went over `bytes`: of the bytes held before
-- and those read since they are the first, and the others are held
pub record PassesOver (old : ReaderState) (bytes : List ℕ) (new : ReaderState) : Type 0 where
  pub text : IsHeldThenRead old new (bytes ++ new.held)
  pub start : new.start ≡ old.start + length bytes
  pub size : new.size ≡ old.size
  pub endings : new.endings ≡ old.endings

-- `PassesOver`, and no read failed
pub record ReadsBytes (old : ReaderState) (bytes : List ℕ) (new : ReaderState) : Type 0 where
  pub over : PassesOver old bytes new
  pub failures : new.device.failures ≡ old.device.failures

-- from the state `old` to the state `new` the reader returned `lines`: they are the lines of the
-- bytes before those that it now holds. Either it is open and every line has an ending, or it has
-- ended
pub record YieldsLines (old : ReaderState) (lines : List (WithStart Line)) (new : ReaderState)
    : Type 0 where
  pub handed : List ℕ
  pub reads : ReadsBytes old handed new
  pub exact : LineSpansEndedBy old.endings old.start handed lines
  pub whole :
      ((new.stage ≡ Open) × All (λ span. span.item.ending ≢ Absent) lines) ⊎ IsDone new

-- ---- cited by private functions only

-- the line of `bytes` as bytes, from the position `start` of the input on
pub record IsBytesAt (endings : Endings) (start : ℕ) (bytes : List ℕ) (line : ReadBytes) : Type 0
  where
    pub exact : LineSpansEndedBy endings start bytes (read_bytes_in line ∷ [])
    pub ended : IsFirstStop endings bytes (length bytes) → line.ending ≢ Absent
    pub text : TextOf start line.bytes.now line.text

-- the text of `bytes`, which have `code` as their last byte or not at all
pub record IsTextBefore (code : ℕ) (bytes text : List ℕ) : Type 0 where
  pub free : LacksUpTo (wanted.Until code) text (length text)
  pub ended : EndsAt (wanted.Until code) bytes (length bytes) → bytes ≡ text ++ code ∷ []
  pub last : LacksUpTo (wanted.Until code) bytes (length bytes) → text ≡ bytes

-- what was taken from a buffer is what is wanted; or all bytes that were left, among which it is
-- not, and a read has returned no bytes
abbrev pub IsTaken : Wanted → Bool → WindowState → Type 0
IsTaken wanted true buffer = (buffer.held ≡ []) × (buffer.is_at_end ≡ true)
    × LacksUpTo wanted buffer.given (length buffer.given)
IsTaken wanted false buffer = EndsAt wanted buffer.given (length buffer.given)

-- what is wanted was taken from a buffer, or all that was left. The bytes end at the position
-- `place`, and `is_last` tells whether the source is at its end
pub record TakesOff (wanted : Wanted) (start : ℕ) (old new : WindowState) (source now : SourceState)
    (place : ℕ) (is_last : Bool) : Type 0 where
  pub delivers : Delivers wanted start old.size old.held old.is_at_end new.is_at_end source now
      new.given new.held
  pub place_is : place ≡ start + length new.given
  pub taken : IsTaken wanted is_last new
  pub last : MayBeLast wanted is_last
  pub one : new.given ≢ [] → IsOne wanted new.given

-- where a search stops. `true`: at the end of the source, and what is wanted is not among the
-- bytes. `false`: at its end
abbrev pub StopsBy : Wanted → WindowState → ℕ → Bool → Type 0
StopsBy wanted buffer n true =
    (n ≡ length buffer.held) × (buffer.is_at_end ≡ true) × LacksUpTo wanted buffer.held n
StopsBy wanted buffer n false = EndsAt wanted buffer.held n

-- what a search finds in a buffer: the number of bytes up to where it stops, which fit and may be
-- in what is wanted
pub record FindsEnd (wanted : Wanted) (buffer : WindowState) (n : ℕ) (is_last : Bool) : Type 0
  where
    pub within : n ≤ length buffer.held
    pub fits : n ≤ buffer.size
    pub may : MayHave wanted (take n buffer.held)
    pub stops : StopsBy wanted buffer n is_last

-- what is wanted ends in a buffer at `found`, or its bytes are all that were left, and is without
-- fault
pub record Finds (wanted : Wanted) (start : ℕ) (buffer : WindowState) (found : Found) : Type 0
  where
    pub ends : FindsEnd wanted buffer found.count found.is_last
    pub place : found.end ≡ start + found.count
    pub one : take found.count buffer.held ≢ [] → IsOne wanted (take found.count buffer.held)
    pub last : MayBeLast wanted found.is_last

-- what looking into a buffer finds: nothing before more bytes come; where what is wanted is; or a
-- fault, which is not that of a read
abbrev pub Looks : Wanted → ℕ → WindowState → Result (Option Found) LineError → Type 0
Looks wanted start buffer (Ok None) =
    (buffer.is_at_end ≡ false) × MustRead wanted start buffer.size buffer.held
Looks wanted start buffer (Ok (Some found)) = Finds wanted start buffer found
Looks wanted start buffer (Err error) =
    Rejects wanted start buffer.size buffer.held buffer.is_at_end error × (error ≢ Read)

-- the first `searched` bytes of a buffer were searched for what is wanted, or none were
abbrev pub IsLookedFor : Wanted → ℕ → WindowState → ℕ → Type 0
IsLookedFor wanted start buffer searched = (searched ≡ 0) ⊎ ((searched ≤ length buffer.held)
    × MustRead wanted start buffer.size (take searched buffer.held))

-- a buffer, with whether the input has ended
abbrev pub window_at : Bool → WindowState → WindowState
window_at is_ended buffer = record buffer { is_at_end = is_ended }

-- the outcome of taking what is wanted, of which `lent` are the bytes. `true`: they are it, and the
-- reader is open or has ended. `false`: there are no more lines, or the part has no bytes
abbrev pub Advances
    : Wanted → ReaderState → Result Bool LineError → ReaderState → List ℕ → Type 0
Advances wanted old (Ok is_some) new lent = Takes wanted old lent new
    × (is_some ≡ nat_lt 0 (length lent)) × (lent ≢ [] → IsOne wanted lent)
    × (((new.stage ≡ Open) × EndsAt wanted lent (length lent))
    ⊎ (IsDone new × LacksUpTo wanted lent (length lent) × MayBeLast wanted true))
Advances wanted old (Err error) new lent = StopsAt wanted old error new

-- what a reader that has ended returns for what is wanted
abbrev pub at_end : Wanted → Result Bool LineError
at_end (wanted.Part n content) = Err (Incomplete 0)
at_end wanted = Ok false

-- the outcome of taking what is wanted, at a stage
abbrev pub AdvancesFrom : {S : Type 0}
    → Stage → Wanted → Reading S → Result Bool LineError → Reading S → Type 0
AdvancesFrom Open wanted old result new = Advances wanted old.state result new.state new.lent
AdvancesFrom Ended wanted old result new = (result ≡ at_end wanted) × (new ≡ old)
AdvancesFrom (Refused error) wanted old result new = (result ≡ Err error) × (new ≡ old)
