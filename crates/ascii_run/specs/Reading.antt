-- What both engines say of their reader and their writer.
use Rattle.std.specs.Prelude.{◌≡◌, ◌≢◌, ℕ, ◌+◌, List, MatchOption, length}
use Rattle.std.specs.Str.{IsAscii}
use Rattle.std.specs.Io.KnownBytes.{IsAtEnd}
use Rattle.std.specs.declared.option.Option.{Option}
use Rattle.std.specs.declared.result.Result.{Result}
use Rattle.std.specs.declared.result.Result.TheVariants.{Err}
use Rattle.ascii.specs.Bytes.{FirstOther}
use Rattle.ascii_devices.specs.States.{Gives}
use Rattle.ascii_devices.specs.declared.Source as source

-- a device's count of failures after a result: one more if it is the error `fault`, otherwise
-- unchanged
abbrev pub Counts : {T E : Type 0} → E → ℕ → ℕ → Result T E → Type 0
Counts fault old new result =
    (result ≡ Err fault → new ≡ old + 1) × (result ≢ Err fault → new ≡ old)

-- ---- cited by private functions only

-- the reader gave these bytes and is at its end
abbrev pub GivesAll : {S : Type 0} → source.Ghosts S → S → S → List ℕ → Type 0
GivesAll says old new bytes = (gives : Gives says old new bytes) × IsAtEnd gives.rest

-- the position of the first byte that is not ASCII, if there is one
abbrev pub HasFirstOther : List ℕ → Option ℕ → Type 0
HasFirstOther bytes other = MatchOption other (IsAscii bytes) (FirstOther bytes 0 (length bytes))
