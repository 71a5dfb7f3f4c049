-- The places of bytes in the lines of an input, and what a scanner finds.
use Rattle.std.specs.Prelude.{◌≡◌, ℕ, ◌+◌, ◌<◌, ◌≤◌, List, [], ◌∷◌, ◌++◌, if◌then◌else◌}
use Rattle.std.specs.Prelude.{length, ◌^◌, ◌-◌, nat_lt, Bool, true, false}
use Rattle.std.specs.Str.{IsAscii}
use Rattle.std.specs.declared.option.Option.{Option}
use Rattle.std.specs.declared.option.Option.TheVariants.{Some, None}
use Rattle.std.specs.declared.result.Result.{Result}
use Rattle.std.specs.declared.result.Result.TheVariants.{Ok, Err}
use Rattle.ascii_run.specs.declared.faults.BoundedFault.{BoundedFault}
use Rattle.ascii_run.specs.declared.faults.BoundedFault.TheVariants.{Read, TooLong}
use Rattle.ascii_filter.specs.declared.scanner.OtherByte.{OtherByte}
use Rattle.ascii_formats.specs.declared.places.Place.{Place}
use Rattle.ascii_formats.specs.Places.{place_after, place_after_byte, start}

-- the non-ASCII bytes of a text that begins at a place, in order, each with its place
abbrev pub others_from : Place → List ℕ → List OtherByte
others_from place [] = []
others_from place (byte ∷ bytes) =
    if nat_lt byte 128 then others_from (place_after_byte place byte) bytes
    else record { place = place; byte = byte } ∷ others_from (place_after_byte place byte) bytes

-- the non-ASCII bytes of an input, in order, each with its place
abbrev pub others_of : List ℕ → List OtherByte
others_of = others_from start

-- a scanner: the place of the next byte, the bytes that it has read and not passed, how many more
-- it may read, and whether it found the end
pub record ScanState : Type 0 where
  pub place : Place
  pub held : List ℕ
  pub room : ℕ
  pub is_done : Bool

-- the scanner is at the start of an input
pub record IsFresh (scanner : ScanState) : Type 0 where
  pub held : scanner.held ≡ []
  pub place : scanner.place ≡ start
  pub room : scanner.room ≡ 2 ^ 64 - 3
  pub not_done : scanner.is_done ≡ false

-- the next non-ASCII byte was found, if `given` was read: those before it are ASCII, it is at its
-- place, and those after it are held
pub record FindsNext (old new : ScanState) (given : List ℕ) (found : OtherByte) : Type 0 where
  pub before : List ℕ
  pub text : old.held ++ given ≡ before ++ found.byte ∷ new.held
  pub ascii : IsAscii before
  pub other : 128 ≤ found.byte
  pub place : found.place ≡ place_after old.place before
  pub next : new.place ≡ place_after_byte found.place found.byte
  pub room : old.room ≡ new.room + length given
  pub not_done : new.is_done ≡ false

-- the outcome of a search for the next non-ASCII byte, if `given` was read. `None`: all bytes that
-- were left are ASCII. `Read`: those before the reader failed are. `TooLong`: the reader gave more
-- bytes than the scanner may read, and those before the last read are ASCII.
abbrev pub ScanOutcome : Result (Option OtherByte) BoundedFault → ScanState → ScanState
    → List ℕ → Type 0 → Type 0
ScanOutcome (Ok (Some found)) old new given at_end = FindsNext old new given found
ScanOutcome (Ok None) old new given at_end =
    IsAscii (old.held ++ given) × (old.is_done ≡ false → at_end) × (new.is_done ≡ true)
ScanOutcome (Err Read) old new given at_end = IsAscii (old.held ++ given)
ScanOutcome (Err TooLong) old new given at_end =
    (text others : List ℕ) × (old.held ++ given ≡ text ++ others) × IsAscii text
    × (old.room < length given)
ScanOutcome (Err other) old new given at_end = ⊥

-- ---- cited by private functions only

-- of the bytes that are held, the next above 127 was found, or all are ASCII and were passed
abbrev pub HeldNext : ScanState → ScanState → Option OtherByte → Type 0
HeldNext old new None =
    IsAscii old.held × (new.held ≡ []) × (new.place ≡ place_after old.place old.held)
    × (new.room ≡ old.room) × (new.is_done ≡ false)
HeldNext old new (Some found) =
    (before : List ℕ) × (old.held ≡ before ++ found.byte ∷ new.held) × IsAscii before
    × (128 ≤ found.byte) × (found.place ≡ place_after old.place before)
    × (new.place ≡ place_after_byte found.place found.byte) × (new.room ≡ old.room)
    × (new.is_done ≡ false)

-- more bytes were read into a scanner that holds none
abbrev pub FillOutcome : Result ℕ BoundedFault → ScanState → ScanState → List ℕ → Type 0 → Type 0
FillOutcome (Ok n) old new given at_end =
    (new.held ≡ given) × (n ≡ 0 → at_end) × (length given ≡ n)
    × (new.place ≡ old.place) × (old.room ≡ new.room + n) × (new.is_done ≡ false)
FillOutcome (Err Read) old new given at_end = given ≡ []
FillOutcome (Err TooLong) old new given at_end = old.room < length given
FillOutcome (Err other) old new given at_end = ⊥

-- from the scanner `old` to `new` the ASCII bytes `passed` were passed, if `given` was read
pub record Skips (old new : ScanState) (given passed : List ℕ) : Type 0 where
  pub text : old.held ++ given ≡ passed ++ new.held
  pub ascii : IsAscii passed
  pub place : new.place ≡ place_after old.place passed
  pub room : old.room ≡ new.room + length given
  pub not_done : new.is_done ≡ false
