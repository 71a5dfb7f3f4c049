-- What a line reader is asked for, when it reads its source for that, and why it does not give it.
use Rattle.std.specs.Prelude.{◌≡◌, ◌≢◌, ◌⊎◌, ℕ, ◌+◌, ◌-◌, ◌^◌, ◌<◌, ◌≤◌, List, [], ◌∷◌, ◌++◌, ⊤}
use Rattle.std.specs.Prelude.{Bool, Err, None, Ok, Some, false, length, slice_index, take, true}
use Rattle.std.specs.Io.KnownBytes.{IsAtEnd}
use Rattle.std.specs.List.{All, flat_map}
use Rattle.std.specs.Str.{IsAscii}
use Rattle.std.specs.declared.option.Option.{Option}
use Rattle.std.specs.declared.result.Result.{Result}
use Rattle.ascii.specs.Bytes.{FirstOther}
use Rattle.ascii.specs.Endings.{FindsLoneBreak, FreeUpTo, IsFirstStop, IsOneLine}
use Rattle.ascii.specs.declared.iter.spans.Endings.TheVariants.{CrLfStrict}
use Rattle.ascii_devices.specs.Devices.{Grows, read_of}
use Rattle.ascii_devices.specs.States.{Gives, SourceState, of_state}
use Rattle.ascii_lines.specs.Failures.{one_more}
use Rattle.ascii_lines.specs.declared.line_reader.LineError.{LineError}
use Rattle.ascii_lines.specs.declared.line_reader.LineError.TheVariants.{NotAscii, LoneBreak}
use Rattle.ascii_lines.specs.declared.line_reader.LineError.TheVariants.{TooLong, TooFar}
use Rattle.ascii_lines.specs.declared.line_reader.LineError.TheVariants.{Incomplete, Read}
use Rattle.ascii_lines.specs.declared.wanted.Content.TheVariants.{Any}
use Rattle.ascii_lines.specs.declared.wanted.Wanted.{Wanted}
use Rattle.ascii_lines.specs.declared.wanted.Wanted.TheVariants.{Line, Part, Until}

-- ---- what is wanted

-- the bytes may be in what is wanted: all are ASCII, except in a line or part that may have any
abbrev pub MayHave : Wanted → List ℕ → Type 0
MayHave (Line endings Any) bytes = ⊤
MayHave (Part count Any) bytes = ⊤
MayHave wanted bytes = IsAscii bytes

-- what is wanted is not among the first `n` bytes of `text`: none of them ends a line or shows a
-- lone CR or LF; or the part is longer; or none of them is the code
abbrev pub LacksUpTo : Wanted → List ℕ → ℕ → Type 0
LacksUpTo (Line endings content) text n = FreeUpTo endings text n
LacksUpTo (Part count content) text n = n < count
LacksUpTo (Until code) text n = (k : ℕ) → k < n → slice_index text k ≢ code

-- the first `n` bytes of `text` are what is wanted: the last of them is the first that ends a line
-- or shows a lone CR or LF; or they are as many as the part has; or the last is the first of the
-- code
abbrev pub EndsAt : Wanted → List ℕ → ℕ → Type 0
EndsAt (Line endings content) text n = IsFirstStop endings text n
EndsAt (Part count content) text n = n ≡ count
EndsAt (Until code) text n =
    (0 < n) × (slice_index text (n - 1) ≡ code) × LacksUpTo (Until code) text (n - 1)

-- the bytes are one line, or a part of this length, or have the code as the last at most
abbrev pub IsOne : Wanted → List ℕ → Type 0
IsOne (Line endings content) bytes = IsOneLine endings bytes
IsOne (Part count content) bytes = length bytes ≡ count
IsOne (Until code) bytes = LacksUpTo (Until code) bytes (length bytes - 1)

-- a lone CR or LF is a fault in what is wanted
abbrev pub IsStrict : Wanted → Type 0
IsStrict (Line endings content) = endings ≡ CrLfStrict
IsStrict wanted = ⊥

-- ---- when the source is read

-- a reader with a buffer of `size` bytes has to read its source for what is wanted, which starts at
-- the position `start` of the input, if it holds the bytes `held` from there on: they fit and are
-- without fault, and what is wanted is not among them. A part that is longer than the buffer, or
-- ends after the position 2 ^ 64 - 1, is not read for
abbrev pub MustRead : Wanted → ℕ → ℕ → List ℕ → Type 0
MustRead (Part count content) start size held = (length held < count)
    × MayHave (Part count content) held × (count ≤ size) × (start + count < 2 ^ 64)
MustRead wanted start size held =
    (length held ≤ size) × MayHave wanted held × LacksUpTo wanted held (length held)

-- the pieces that were read, one at a call: before each of them `Must` was true of the bytes held
-- until then, which were `held` before the first. No read was made after one without bytes
abbrev pub Asks : (List ℕ → Type 0) → List ℕ → List (List ℕ) → Type 0
Asks Must held [] = ⊤
Asks Must held (read ∷ reads) =
    Must held × (read ≡ [] → reads ≡ []) × Asks Must (held ++ read) reads

-- the pieces as one list
abbrev pub all_of : List (List ℕ) → List ℕ
all_of reads = flat_map (λ read. read) reads

-- if a read has returned no bytes, the source, which has yet to give `left`, is at its end
abbrev pub KnowsEnd : Bool → Option (List ℕ) → Type 0
KnowsEnd is_at_end left = is_at_end ≡ true → IsAtEnd left

-- whether a read has returned no bytes before these reads, and whether one has after them: none is
-- made if one has before, and if one has only after them, it is the last of them
abbrev pub ReachesEnd : Bool → List (List ℕ) → Bool → Type 0
ReachesEnd true reads is_at_end = (reads ≡ []) × (is_at_end ≡ true)
ReachesEnd false reads true = (first : List (List ℕ)) × (reads ≡ first ++ [] ∷ [])
ReachesEnd false reads false = ⊤

-- `text` is the bytes `held`, and after them those that the source gave. It was read only while
-- `Must` was true of the bytes held until then; a read that failed has no bytes. `was_at_end` and
-- `is_at_end` tell whether a read had returned no bytes before, and whether one has now
pub record Gathers (Must : List ℕ → Type 0) (held : List ℕ) (was_at_end is_at_end : Bool)
    (old new : SourceState) (text : List ℕ) : Type 0 where
  pub reads : List (List ℕ)
  pub asks : Asks Must held reads
  pub gave : Gives of_state old new (all_of reads)
  pub told : Grows old.history new.history (flat_map read_of reads)
  pub all : text ≡ held ++ all_of reads
  pub unread : reads ≡ [] → new ≡ old
  pub aside : new.aside ≡ old.aside
  pub reaches : ReachesEnd was_at_end reads is_at_end
  pub some : is_at_end ≡ false → new.failures ≡ old.failures → All (λ read. read ≢ []) reads
  pub end : KnowsEnd is_at_end new.rest

-- ---- why it is not given

-- the byte at `i` is a CR without an LF after it, or an LF without a CR before it, and the first
-- such byte of `text`. The bytes up to the one that shows it, which are `n`, fit in `size` bytes
-- and may be in what is wanted: for LF it shows itself; for CR the byte after it does; or, if there
-- is none, a read that returned no bytes
pub record IsLoneBreak (wanted : Wanted) (size : ℕ) (text : List ℕ) (is_at_end : Bool) (i n : ℕ)
    : Type 0 where
  pub fits : n ≤ size
  pub inside : n ≤ length text
  pub may : MayHave wanted (take n text)
  pub first : (k : ℕ) → k < i → (slice_index text k ≢ 10) × (slice_index text k ≢ 13)
  pub lone : ((n ≡ i + 1) × (slice_index text i ≡ 10))
      ⊎ ((n ≡ i + 2) × (slice_index text i ≡ 13) × (slice_index text (i + 1) ≢ 10))
      ⊎ ((n ≡ i + 1) × (n ≡ length text) × (slice_index text i ≡ 13) × (is_at_end ≡ true))

-- the byte at `i` is the first of `text` that is not less than 128, and comes among those that fit
-- in `size` bytes and in what is wanted, which may not have it
abbrev pub IsOtherIn : Wanted → ℕ → List ℕ → ℕ → Type 0
IsOtherIn (Line endings Any) size text i = ⊥
IsOtherIn (Part count Any) size text i = ⊥
IsOtherIn wanted size text i =
    (i < size) × FirstOther text 0 (length text) i × LacksUpTo wanted text i

-- what is wanted does not fit in `size` bytes: the line or text has more, of which those that fit
-- may be in it; or the part is longer
abbrev pub IsOver : Wanted → ℕ → List ℕ → Type 0
IsOver (Part count content) size text = size < count
IsOver wanted size text =
    (size < length text) × MayHave wanted (take size text) × LacksUpTo wanted text size

-- what is wanted, which starts at the position `start` of the input, has a byte at the position
-- 2 ^ 64 - 1 or after it; so it is if its first non-ASCII byte is there
abbrev pub IsFar : Wanted → ℕ → List ℕ → Type 0
IsFar (Part count content) start text = 2 ^ 64 - 1 < start + count
IsFar wanted start text =
    (n : ℕ) × (n ≤ length text) × LacksUpTo wanted text (n - 1) × (2 ^ 64 - 1 < start + n)

-- a read has returned no bytes, and `text` is fewer bytes than the part has
abbrev pub IsCutOff : Wanted → List ℕ → Bool → Type 0
IsCutOff (Part count content) text is_at_end =
    (is_at_end ≡ true) × MayHave (Part count content) text × (length text < count)
IsCutOff wanted text is_at_end = ⊥

-- why a reader with a buffer of `size` bytes does not give what is wanted, which starts at the
-- position `start` of the input. The reader holds `text` from there on, and `is_at_end` tells
-- whether a read of its source has returned no bytes. A position in an error is one in the input.
-- `Read`: the source failed, or has failed 2 ^ 64 - 1 times, and it had to be read
abbrev pub Rejects : Wanted → ℕ → ℕ → List ℕ → Bool → LineError → Type 0
Rejects wanted start size text is_at_end (NotAscii place) =
    (i : ℕ) × (place ≡ start + i) × IsOtherIn wanted size text i
Rejects wanted start size text is_at_end (LoneBreak place) = IsStrict wanted
    × ((i n : ℕ) × (place ≡ start + i) × IsLoneBreak wanted size text is_at_end i n)
Rejects wanted start size text is_at_end (TooLong place) =
    (place ≡ start) × IsOver wanted size text
Rejects wanted start size text is_at_end TooFar = IsFar wanted start text
Rejects wanted start size text is_at_end (Incomplete count) =
    (count ≡ length text) × IsCutOff wanted text is_at_end
Rejects wanted start size text is_at_end Read = MustRead wanted start size text

-- the failures of the source after this error, of `n` before: one more after `Read`, unless `n` is
-- 2 ^ 64 - 1
abbrev pub failures_after : ℕ → LineError → ℕ
failures_after n Read = one_more n
failures_after n error = n

-- the reader held `held` and has read on to `text`, and this error comes in place of what is wanted
pub record Refuses (wanted : Wanted) (start size : ℕ) (held : List ℕ) (was_at_end is_at_end : Bool)
    (old new : SourceState) (text : List ℕ) (error : LineError) : Type 0 where
  pub gathers : Gathers (MustRead wanted start size) held was_at_end is_at_end old new text
  pub why : Rejects wanted start size text is_at_end error
  pub failures : new.failures ≡ failures_after old.failures error

-- the reader held `held` and gives `bytes`, which may be in what is wanted and fit in its buffer;
-- after them it holds `others`. No read failed
pub record Delivers (wanted : Wanted) (start size : ℕ) (held : List ℕ)
    (was_at_end is_at_end : Bool) (old new : SourceState) (bytes others : List ℕ) : Type 0 where
  pub gathers : Gathers (MustRead wanted start size) held was_at_end is_at_end old new
      (bytes ++ others)
  pub may : MayHave wanted bytes
  pub fits : length bytes ≤ size
  pub failures : new.failures ≡ old.failures

-- ---- cited by private functions only

-- a part fits in a buffer of `size` bytes, and ends before the position 2 ^ 64
abbrev pub MayFit : Wanted → ℕ → ℕ → Type 0
MayFit (Part count content) start size = (count ≤ size) × (start + count < 2 ^ 64)
MayFit wanted start size = ⊤

-- a part does not fit in a buffer of `size` bytes, or ends too far
abbrev pub IsUnfit : Wanted → ℕ → ℕ → LineError → Type 0
IsUnfit (Part count content) start size (TooLong place) = (place ≡ start) × (size < count)
IsUnfit (Part count content) start size TooFar = 2 ^ 64 - 1 < start + count
IsUnfit wanted start size error = ⊥

-- the first `n` bytes of `text` were searched for the end of a line, or for the code
abbrev pub IsSearched : Wanted → List ℕ → ℕ → Type 0
IsSearched (Part count content) text n = ⊤
IsSearched wanted text n = LacksUpTo wanted text n

-- the position of a lone CR or LF that is a fault among the last two of `bytes`, if there is one
abbrev pub FindsFault : Wanted → List ℕ → Option ℕ → Type 0
FindsFault (Line endings content) bytes found = FindsLoneBreak endings bytes found
FindsFault wanted bytes found = found ≡ None

-- the bytes may be the last of the input: a part is not, if it is longer
abbrev pub MayBeLast : Wanted → Bool → Type 0
MayBeLast (Part count content) true = ⊥
MayBeLast wanted is_last = ⊤

-- the position after `bytes`, or why they are not what is wanted: a part is longer, but they are
-- the last; they end too far; or they have a lone CR or LF
abbrev pub IsEndOf : Wanted → ℕ → List ℕ → Bool → Result ℕ LineError → Type 0
IsEndOf wanted start bytes is_last (Ok end) = (end ≡ start + length bytes)
    × FindsFault wanted bytes None × MayBeLast wanted is_last
IsEndOf wanted start bytes is_last (Err (Incomplete count)) =
    (count ≡ length bytes) × ¬ (MayBeLast wanted is_last)
IsEndOf wanted start bytes is_last (Err TooFar) = 2 ^ 64 - 1 < start + length bytes
IsEndOf wanted start bytes is_last (Err (LoneBreak place)) =
    (i : ℕ) × (place ≡ start + i) × FindsFault wanted bytes (Some i)
IsEndOf wanted start bytes is_last (Err error) = ⊥

-- the error at `i` bytes after the position `start`: what is wanted does not fit in `size` bytes,
-- or the byte there is not less than 128
abbrev pub IsRefusal : ℕ → ℕ → ℕ → LineError → Type 0
IsRefusal start i size (TooLong place) = (i ≡ size) × (place ≡ start)
IsRefusal start i size (NotAscii place) = (i ≢ size) × (place ≡ start + i)
IsRefusal start i size TooFar = (i ≢ size) × (2 ^ 64 - 1 < start + i)
IsRefusal start i size error = ⊥
