-- What a line reader skips, and how the bytes of a line are taken that is skipped.
use Rattle.std.specs.Prelude.{drop, take, ◌≡◌, ◌≢◌, ◌⊎◌, ℕ, ◌+◌, ◌-◌, ◌^◌, ◌<◌, ◌≤◌, List, []}
use Rattle.std.specs.Prelude.{◌++◌, ⊤, length}
use Rattle.std.specs.Prelude.{Bool, Err, MatchOption, false, true, None, Ok, Option, Some}
use Rattle.std.specs.Prelude.{slice_index}
use Rattle.std.specs.Str.{IsAscii}
use Rattle.std.specs.declared.result.Result.{Result}
use Rattle.ascii.specs.Bytes.{FirstOther}
use Rattle.ascii.specs.Endings.{FreeUpTo, IsFirstStop, any_text}
use Rattle.ascii.specs.declared.iter.spans.Endings.{Endings}
use Rattle.ascii.specs.declared.iter.spans.Endings.TheVariants.{CrLf}
use Rattle.ascii_devices.specs.States.{SourceState}
use Rattle.ascii_lines.specs.Failures.{one_more}
use Rattle.ascii_lines.specs.LineBuffer.{WindowState}
use Rattle.ascii_lines.specs.LineReader.{IsDone, ReaderState, Reading}
use Rattle.ascii_lines.specs.Wanted.{Gathers, failures_after}
use Rattle.ascii_lines.specs.declared.line_reader.LineError.{LineError}
use Rattle.ascii_lines.specs.declared.line_reader.LineError.TheVariants.{Incomplete, Read, TooFar}
use Rattle.ascii_lines.specs.declared.line_reader.LineError.TheVariants.{TooLong}
use Rattle.ascii_lines.specs.declared.line_reader.Stage.{Stage}
use Rattle.ascii_lines.specs.declared.line_reader.Stage.TheVariants.{Ended, Open, Refused}
use Rattle.ascii_lines.specs.declared.skipping.PassEnd.{PassEnd}
use Rattle.ascii_lines.specs.declared.skipping.PassEnd.TheVariants as end
use Rattle.ascii_lines.specs.declared.skipping.Passed.{Passed}
use Rattle.ascii_lines.specs.declared.skipping.SkippedLine.{SkippedLine}

-- what was skipped: `bytes`, from the position `start` of the input on
pub record IsSkipped (start : ℕ) (bytes : List ℕ) (skipped : SkippedLine) : Type 0 where
  pub start_is : skipped.start ≡ start
  pub length_is : skipped.length ≡ length bytes
  pub other : MatchOption skipped.non_ascii (IsAscii bytes)
      (λ place. (i : ℕ) × (place ≡ start + i) × FirstOther bytes 0 (length bytes) i)

-- a CR LF that ends a line does not lie across two lists
abbrev pub IsCleanCut : Endings → List ℕ → List ℕ → Type 0
IsCleanCut endings bytes held = endings ≡ CrLf → slice_index bytes (length bytes - 1) ≡ 13
    → (held ≢ []) × (slice_index held 0 ≢ 10)

-- why a line from the position `start` on was not skipped, of which `bytes` were read over and
-- `held` are held. `TooLong`: it has no ending among its first `most` bytes, and has more; these
-- were skipped, or all but one. `TooFar`: it has none before the position 2 ^ 64 - 1, and the bytes
-- before that were skipped, or all but one. `Read`: it has none among those read, which were
-- skipped, or all but one
abbrev pub WhyNotSkipped : Endings → ℕ → ℕ → List ℕ → List ℕ → LineError → Type 0
WhyNotSkipped endings most start bytes held (TooLong place) = (place ≡ start)
    × (most < length (bytes ++ held)) × FreeUpTo endings (bytes ++ held) most
    × (most ≤ length bytes + 1)
WhyNotSkipped endings most start bytes held TooFar = (2 ^ 64 - 1 < start + length (bytes ++ held))
    × FreeUpTo endings (bytes ++ held) (2 ^ 64 - 1 - start)
    × (2 ^ 64 - 1 - start ≤ length bytes + 1)
WhyNotSkipped endings most start bytes held Read =
    FreeUpTo endings (bytes ++ held) (length (bytes ++ held)) × (length held ≤ 1)
WhyNotSkipped endings most start bytes held error = ⊥

-- no line ends in the bytes
abbrev pub HasNoEnd : Endings → List ℕ → Type 0
HasNoEnd endings text = FreeUpTo endings text (length text)

-- from the state `old` to the state `new` the reader read over `bytes`: of the bytes held before
-- and those read since they are the first, and the others are held. The source was read only while
-- no line ended in all of them
pub record SkipsBytes (old : ReaderState) (bytes : List ℕ) (new : ReaderState) : Type 0 where
  pub gathers : Gathers (HasNoEnd (any_text old.endings)) old.held old.is_at_end new.is_at_end
      old.device new.device (bytes ++ new.held)
  pub start : new.start ≡ old.start + length bytes
  pub size : new.size ≡ old.size
  pub endings : new.endings ≡ old.endings

-- what skipping a line does. `Ok`: the bytes up to its ending were skipped, at most `most`, and the
-- reader is open; or all bytes of the input were, and it has ended. `Err`: the reader has stopped,
-- and why; the bytes before those that it holds were skipped, and no CR LF was cut in two
abbrev pub SkipsLine
    : ℕ → ReaderState → Result SkippedLine LineError → ReaderState → Type 0
SkipsLine most old (Ok skipped) new = (bytes : List ℕ) × SkipsBytes old bytes new
    × (new.device.failures ≡ old.device.failures)
    × (length bytes ≤ most) × IsSkipped old.start bytes skipped
    × (((new.stage ≡ Open) × IsFirstStop (any_text old.endings) bytes (length bytes))
    ⊎ (IsDone new × FreeUpTo (any_text old.endings) bytes (length bytes)))
SkipsLine most old (Err error) new = (new.stage ≡ Refused error)
    × ((bytes : List ℕ) × SkipsBytes old bytes new × (length bytes ≤ most)
    × (new.device.failures ≡ failures_after old.device.failures error)
    × IsCleanCut (any_text old.endings) bytes new.held
    × WhyNotSkipped (any_text old.endings) most old.start bytes new.held error)

-- an error after which no line can be skipped
abbrev pub IsFinal : LineError → Type 0
IsFinal TooFar = ⊤
IsFinal (Incomplete count) = ⊤
IsFinal Read = ⊤
IsFinal error = ⊥

-- nothing was skipped
abbrev pub skipped_nothing : ℕ → SkippedLine
skipped_nothing start = record { start = start; length = 0; non_ascii = None }

-- what skipping a line does at a stage: at `Open` the next line, after `NotAscii`, `LoneBreak` and
-- `TooLong` the line at fault. At `Ended` nothing is skipped, after another error that is returned,
-- and then reader and source are unchanged
abbrev pub SkipsFrom : {S : Type 0}
    → Stage → ℕ → Reading S → Result SkippedLine LineError → Reading S → Type 0
SkipsFrom Open most old result new = SkipsLine most old.state result new.state
SkipsFrom Ended most old result new =
    (result ≡ Ok (skipped_nothing old.state.start)) × (new ≡ old)
SkipsFrom (Refused error) most old result new =
    (IsFinal error → (result ≡ Err error) × (new ≡ old))
    × (¬ (IsFinal error) → SkipsLine most old.state result new.state)

-- what skipping a line does, by the stage of the reader
abbrev pub Skips : {S : Type 0}
    → ℕ → Reading S → Result SkippedLine LineError → Reading S → Type 0
Skips most old result new = SkipsFrom old.state.stage most old result new

-- ---- cited by private functions only

-- why no more bytes of a line are taken off a buffer, after `bytes`: the line ends, a read has
-- returned no bytes, the line is longer than `limit`, or a read failed
abbrev pub EndsPass : Endings → ℕ → List ℕ → List ℕ → Bool → PassEnd → Type 0
EndsPass endings limit bytes held is_at_end end.Ending =
    IsFirstStop endings bytes (length bytes)
EndsPass endings limit bytes held is_at_end end.Input =
    FreeUpTo endings bytes (length bytes) × (held ≡ []) × (is_at_end ≡ true)
EndsPass endings limit bytes held is_at_end end.Limit =
    (limit < length (bytes ++ held)) × FreeUpTo endings (bytes ++ held) limit
    × (limit ≤ length bytes + 1) × IsCleanCut endings bytes held
EndsPass endings limit bytes held is_at_end end.Failed =
    FreeUpTo endings (bytes ++ held) (length (bytes ++ held)) × (length held ≤ 1)
    × IsCleanCut endings bytes held

-- the failures of a source after that, of `n` before
abbrev pub failures_by : ℕ → PassEnd → ℕ
failures_by n end.Failed = one_more n
failures_by n other = n

-- the error by which a line is not skipped
abbrev pub error_of : PassEnd → ℕ → Bool → Option LineError
error_of end.Limit start true = Some TooFar
error_of end.Limit start false = Some (TooLong start)
error_of end.Failed start is_far = Some Read
error_of other start is_far = None

-- whether a reader goes on after a line was skipped, or was not for this error
abbrev pub stage_by : PassEnd → Option LineError → Stage
stage_by why (Some error) = Refused error
stage_by end.Input None = Ended
stage_by other None = Open

-- `bytes` were taken: how many they are, and the first of them that is not less than 128
pub record Counts (bytes : List ℕ) (passed : Passed) : Type 0 where
  pub count : passed.count ≡ length bytes
  pub other : MatchOption passed.other (IsAscii bytes)
      (λ i. FirstOther bytes 0 (length bytes) i)

-- `n` bytes were taken off a buffer, after those of `before`
pub record PassesBytes (n : ℕ) (old new : WindowState) (before after : Passed) : Type 0 where
  pub counts : (bytes : List ℕ) → Counts bytes before → Counts (bytes ++ take n old.held) after
  pub held : new.held ≡ drop n old.held
  pub size : new.size ≡ old.size
  pub room : (new.room ≡ old.room) × (1 < new.room)
  pub at_end : new.is_at_end ≡ old.is_at_end

-- the bytes of a line were taken off a buffer and its source, at most `limit`
pub record PassesLine (endings : Endings) (limit : ℕ) (old new : WindowState)
    (source now : SourceState) (passed : Passed) (why : PassEnd) : Type 0 where
  pub bytes : List ℕ
  pub gathers : Gathers (HasNoEnd endings) old.held old.is_at_end new.is_at_end source now
      (bytes ++ new.held)
  pub counts : Counts bytes passed
  pub within : length bytes ≤ limit
  pub ends : EndsPass endings limit bytes new.held new.is_at_end why
  pub failures : now.failures ≡ failures_by source.failures why
  pub size : new.size ≡ old.size

-- a CR at `n` may begin an ending, or there is none before it
abbrev pub IsKept : Endings → List ℕ → ℕ → Type 0
IsKept endings text n = (endings ≡ CrLf → slice_index (take n text) (n - 1) ≢ 13)
    ⊎ (slice_index text n ≡ 13)

-- how many bytes of `text` are taken, of which at most `left` may be: up to the end of the line
-- (`Ending`); those that may be but a CR at their end, if the line does not end in them and goes
-- on (`Limit`); or all but a CR at their end
abbrev pub TakesPart : Endings → List ℕ → ℕ → ℕ → Option PassEnd → Type 0
TakesPart endings text left n (Some end.Ending) = (n ≤ left) × IsFirstStop endings text n
TakesPart endings text left n (Some end.Limit) = (n ≤ left) × (left < length text)
    × FreeUpTo endings text left × (left ≤ n + 1) × IsKept endings text n
TakesPart endings text left n (Some other) = ⊥
TakesPart endings text left n None = (length text ≤ left) × (length text ≤ n + 1)
    × FreeUpTo endings text (length text) × IsKept endings text n

-- one for a CR at the end of `text` that may begin an ending, zero if there is none
abbrev pub IsCrAtEnd : Endings → List ℕ → ℕ → Type 0
IsCrAtEnd endings text n =
    ((n ≡ 1) × (0 < length text) × (slice_index text (length text - 1) ≡ 13))
    ⊎ ((n ≡ 0) × (endings ≡ CrLf → slice_index text (length text - 1) ≢ 13))
