-- The outcome of taking a range of a source as ASCII text.
use Rattle.std.specs.Prelude.{◌≡◌, ◌<◌, ◌≤◌, ◌⊎◌, ℕ, List, length, slice_index, MatchOption}
use Rattle.std.specs.Prelude.{MatchResult, Option}
use Rattle.std.specs.declared.result.Result.{Result}
use Rattle.std.specs.Str.{IsAscii}
use Rattle.ascii_base.specs.declared.range.AsciiRange.{AsciiRange}
use Rattle.ascii_base.specs.declared.ascii_char.AsciiChar.{AsciiChar}
use Rattle.ascii_base.specs.Code.{code_of}
use Rattle.ascii_base.specs.Bytes.{FirstOther}
use Rattle.ascii_base.specs.Range.{start_of, end_of, Fits, part_of}
use Rattle.ascii.specs.declared.ascii_str.AsciiStr.{AsciiStr}
use Rattle.ascii.specs.declared.ascii_str.AsAsciiStrError.{AsAsciiStrError}
use Rattle.ascii.specs.View.{text_of, position_of}

-- why the range is rejected: either it does not fit, and `e` holds the length of the source; or it
-- fits, and `e` holds the position of its first non-ASCII byte
abbrev pub IsRejected : List ℕ → AsciiRange → AsAsciiStrError → Type 0
IsRejected bytes r e = let n = length bytes in (¬ Fits r n × (position_of e ≡ n))
    ⊎ (Fits r n × FirstOther bytes (start_of r) (end_of r n) (position_of e))

-- `Ok`: the range fits, and the view is that part of the source. `Err`: `IsRejected` holds
abbrev pub SliceOutcome : List ℕ → AsciiRange → Result AsciiStr AsAsciiStrError → Type 0
SliceOutcome bytes r result = MatchResult result
    (λ v. Fits r (length bytes) × (text_of v ≡ part_of bytes r))
    (IsRejected bytes r)

-- position `i` is inside the source, and its byte is less than 128
abbrev pub HasCodeAt : List ℕ → ℕ → Type 0
HasCodeAt bytes i = (i < length bytes) × (slice_index bytes i < 128)

-- `Some` of the character at `i` if `HasCodeAt bytes i`, otherwise `None`
abbrev pub GetsAscii : List ℕ → ℕ → Option AsciiChar → Type 0
GetsAscii bytes i result = MatchOption result (¬ (HasCodeAt bytes i))
    (λ ch. HasCodeAt bytes i × (code_of ch ≡ slice_index bytes i))

-- every byte at a position from `s` up to, but not including, `e` is less than 128
abbrev pub AsciiBetween : List ℕ → ℕ → ℕ → Type 0
AsciiBetween bytes s e = (k : ℕ) → s ≤ k → k < e → slice_index bytes k < 128

-- ---- cited by private functions only

-- the start and end of a range that fits and whose bytes are all ASCII
pub record IsAsciiBounds (bytes : List ℕ) (r : AsciiRange) (bounds : ℕ × ℕ) : Type 0 where
  pub fits : Fits r (length bytes)
  pub start : bounds.0 ≡ start_of r
  pub end : bounds.1 ≡ end_of r (length bytes)
  pub ascii : IsAscii (part_of bytes r)
