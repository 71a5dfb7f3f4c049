-- What a buffer of fixed size holds between two reads.
use Rattle.std.specs.Prelude.{◌≡◌, ◌⊎◌, ℕ, ◌+◌, ◌<◌, ◌≤◌, ◌++◌, List, [], MatchResult, length}
use Rattle.std.specs.Prelude.{◌==◌, Bool, slice_index, slice_range, take}
use Rattle.std.specs.Io.KnownBytes.{Consumes, IsAtEnd}
use Rattle.std.specs.declared.result.Result.{Result}
use Rattle.ascii.specs.Bytes.{FirstOther}
use Rattle.ascii_devices.specs.Devices.{Grows, read_of}
use Rattle.ascii_devices.specs.States.{SourceState}
use Rattle.ascii_devices.specs.declared.DeviceFault.{DeviceFault}
use Rattle.ascii_lines.specs.Failures.{one_more}
use Rattle.ascii_lines.specs.Wanted.{MayHave}
use Rattle.ascii_lines.specs.declared.wanted.Content.TheVariants.{Any}
use Rattle.ascii_lines.specs.declared.wanted.Wanted.{Wanted}
use Rattle.ascii_lines.specs.declared.wanted.Wanted.TheVariants.{Line, Part}

-- what contracts see of a buffer: how many bytes a line may have; how many it has room for; the
-- bytes taken last; the bytes that it holds; how many of these, from the first, are known to be
-- less than 128; the room after them; and whether a read of the source has returned no bytes
pub record WindowState : Type 0 where
  pub size : ℕ
  pub room : ℕ
  pub given : List ℕ
  pub held : List ℕ
  pub checked : ℕ
  pub spare : ℕ
  pub is_at_end : Bool

-- where the bytes of a buffer are: those taken last from `given` to `from`, and those held from
-- `from` to `filled`. All held bytes before `checked` are less than 128, and the one at `checked`
-- is not, if it is before `filled`. There is room for one byte more than a line may have, and for
-- two at least
pub record IsLaidOut (size : ℕ) (bytes : List ℕ) (given from checked filled : ℕ) : Type 0 where
  pub given_first : given ≤ from
  pub then_from : from ≤ checked
  pub then_checked : checked ≤ filled
  pub inside : filled ≤ length bytes
  pub ascii : (k : ℕ) → from ≤ k → k < checked → slice_index bytes k < 128
  pub other : checked < filled → 128 ≤ slice_index bytes checked
  pub roomy : size < length bytes
  pub two : 1 < length bytes

-- the byte at `i` is the first that is not less than 128, and what is wanted may not have it
abbrev pub IsBarred : Wanted → List ℕ → ℕ → Type 0
IsBarred (Line endings Any) held i = ⊥
IsBarred (Part count Any) held i = ⊥
IsBarred wanted held i = FirstOther held 0 (length held) i

-- of the bytes that a buffer holds, `part` are the first that may be in what is wanted: as many as
-- fit, up to the first that it may not have. The buffer has room for more than fit
pub record IsUsable (wanted : Wanted) (buffer : WindowState) (part : List ℕ) : Type 0 where
  pub front : part ≡ take (length part) buffer.held
  pub within : length part ≤ length buffer.held
  pub fits : length part ≤ buffer.size
  pub may : MayHave wanted part
  pub most : (length part ≡ length buffer.held) ⊎ (length part ≡ buffer.size)
      ⊎ IsBarred wanted buffer.held (length part)
  pub roomy : buffer.size < buffer.room

-- the first `n` bytes are less than 128, and the one after them is not, if there is one
pub record IsAsciiLength (bytes : List ℕ) (n : ℕ) : Type 0 where
  pub within : n ≤ length bytes
  pub ascii : (k : ℕ) → k < n → slice_index bytes k < 128
  pub other : n < length bytes → 128 ≤ slice_index bytes n

-- the source was read once and gave these bytes; if there are none, it is at its end
pub record ReadsOnce (old new : SourceState) (read : List ℕ) : Type 0 where
  pub gave : Consumes old.rest new.rest read
  pub end : read ≡ [] → IsAtEnd new.rest
  pub failures : new.failures ≡ old.failures
  pub told : Grows old.history new.history (read_of read)
  pub aside : new.aside ≡ old.aside

-- the source was read once and failed
pub record FailsOnce (old new : SourceState) : Type 0 where
  pub failures : new.failures ≡ old.failures + 1
  pub told : Grows old.history new.history (read_of [])
  pub aside : new.aside ≡ old.aside

-- what a read after the first `filled` bytes does: these and the length are unchanged, and what was
-- read follows them; or the source failed
pub record ReadsBehind (filled : ℕ) (old new : List ℕ) (source now : SourceState)
    (result : Result ℕ DeviceFault) : Type 0 where
  pub front : take filled new ≡ take filled old
  pub len : length new ≡ length old
  pub outcome : MatchResult result
      (λ n. (filled + n ≤ length new)
      × ReadsOnce source now (slice_range new filled (filled + n)))
      (λ _. FailsOnce source now)

-- what filling a buffer does: the bytes that were read follow those held; or the source failed
pub record Refills (old new : WindowState) (source now : SourceState)
    (result : Result (Unit {0}) DeviceFault) : Type 0 where
  pub outcome : MatchResult result
      (λ _. (read : List ℕ) × ReadsOnce source now read × (new.held ≡ old.held ++ read)
      × (new.is_at_end ≡ (length read == 0)))
      (λ _. FailsOnce source now × (new.held ≡ old.held) × (new.is_at_end ≡ old.is_at_end))
  pub size : new.size ≡ old.size
  pub room : new.room ≡ old.room

-- what filling a buffer does: `Refills`, or nothing, if calls of the source have failed 2 ^ 64 - 1
-- times
pub record Fills (old new : WindowState) (source now : SourceState)
    (result : Result (Unit {0}) DeviceFault) : Type 0 where
  pub outcome : MatchResult result
      (λ _. (read : List ℕ) × ReadsOnce source now read × (new.held ≡ old.held ++ read)
      × (new.is_at_end ≡ (length read == 0)))
      (λ _. (FailsOnce source now ⊎ (now ≡ source)) × (new.held ≡ old.held)
      × (new.is_at_end ≡ old.is_at_end) × (now.failures ≡ one_more source.failures))
  pub size : new.size ≡ old.size
