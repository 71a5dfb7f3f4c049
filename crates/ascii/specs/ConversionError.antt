-- What a failed conversion returns.
use Rattle.std.specs.Prelude.{◌≡◌, ℕ, ◌<◌, List, codes, length}
use Rattle.std.specs.Str.{IsAscii}
use Rattle.ascii_base.specs.Bytes.{FirstOther}
use Rattle.ascii.specs.declared.ascii_str.AsAsciiStrError.{AsAsciiStrError}
use Rattle.ascii.specs.declared.from_ascii.FromAsciiError.{FromAsciiError}
use Rattle.ascii.specs.declared.from_ascii.CopyError.{CopyError}
use Rattle.ascii.specs.declared.from_ascii.CopyError.TheVariants.{NotAscii, Memory}
use Rattle.ascii.specs.View.{error_text, position_of}

-- the reason for the error
abbrev pub ascii_error_of : {O : Type 0} → FromAsciiError O → AsAsciiStrError
ascii_error_of e = e.error

-- the source that the error holds
abbrev pub source_of : {O : Type 0} → FromAsciiError O → O
source_of e = e.source

-- the error holds `source` itself, and the position of the first non-ASCII byte
abbrev pub ReturnsSource : {O : Type 0} → O → List ℕ → FromAsciiError O → Type 0
ReturnsSource source bytes e = (source_of e ≡ source)
    × FirstOther bytes 0 (length bytes) (position_of (ascii_error_of e))

-- the output of the error of a failed copy
abbrev pub copy_error_text : {O : Type 0} → CopyError O → List ℕ
copy_error_text (NotAscii e) = error_text (position_of (ascii_error_of e))
copy_error_text (Memory e) = codes "no memory"

-- `NotAscii`: as `ReturnsSource`. `Memory`: there is at least one byte, and all are ASCII
abbrev pub RejectsCopy : {O : Type 0} → O → List ℕ → CopyError O → Type 0
RejectsCopy source bytes (NotAscii e) = ReturnsSource source bytes e
RejectsCopy source bytes (Memory e) = IsAscii bytes × (0 < length bytes)
