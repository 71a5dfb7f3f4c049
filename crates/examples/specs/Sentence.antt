-- Sentences of NMEA 0183.
use Rattle.std.specs.Int.Bits.{bit_xor}
use Rattle.std.specs.List.{fold}
use Rattle.std.specs.Option.{option_map}
use Rattle.std.specs.Prelude.{◌≡◌, ℕ, ◌+◌, List, ◌∷◌, ◌++◌, ◌^◌, ◌-◌, None, Option, Some, length}
use Rattle.std.specs.Prelude.{slice_get}
use Rattle.ascii_formats.specs.Decimals.{WritesDecimal}
use Rattle.ascii_formats.specs.Numbers.{WritesNumberIn, unsigned_up_to}
use Rattle.ascii_formats.specs.Parts.{ArePiecesOf, in_whole, part_text}
use Rattle.ascii.specs.Parts.{WithStart}
use Rattle.ascii.specs.Pieces.{Pieces}
use Rattle.ascii.specs.declared.ascii_str.AsciiStr.{AsciiStr}
use Rattle.ascii_formats.specs.declared.decimals.Decimal.{Decimal}
use Rattle.ascii_formats.specs.declared.parts.Part.{Part}
use Rattle.examples.specs.declared.nmea.Fix.{Fix}
use Rattle.examples.specs.declared.nmea.FixError.{FixError}
use Rattle.examples.specs.declared.nmea.What.{What}
use Rattle.examples.specs.declared.nmea.What.TheVariants.{Field, NoField}

-- the exclusive or of the codes
abbrev pub xor_of : List ℕ → ℕ
xor_of codes = fold bit_xor 0 codes

-- `digits` are two hexadecimal digits that write `n`
abbrev pub WritesHexByte : List ℕ → ℕ → Type 0
WritesHexByte digits n =
    (length digits ≡ 2) × WritesNumberIn (unsigned_up_to (2 ^ 8 - 1)) 16 digits n

-- `line` is `$`, `body`, `*`, and `sum` in hexadecimal
pub record HasSum (line body : List ℕ) (sum : ℕ) : Type 0 where
  pub digits : List ℕ
  pub parts : line ≡ 36 ∷ (body ++ 42 ∷ digits)
  pub sum_is : WritesHexByte digits sum

-- `line` is `$`, `body`, `*`, and the checksum of `body` in hexadecimal
abbrev pub IsSentence : List ℕ → List ℕ → Type 0
IsSentence line body = HasSum line body (xor_of body)

-- the field at `index` of a body, counted from 0, writes the number `d`
pub record HasDecimal (body : List ℕ) (index : ℕ) (d : Decimal) : Type 0 where
  pub fields : List (List ℕ)
  pub field : List ℕ
  pub cut : Pieces body 44 fields
  pub at : slice_get fields index ≡ Some field
  pub writes : WritesDecimal field d

-- the line is a sentence whose fields write the numbers of `fix`
pub record ReportsFix (line : List ℕ) (fix : Fix) : Type 0 where
  pub body : List ℕ
  pub sentence : IsSentence line body
  pub latitude : HasDecimal body 2 fix.latitude
  pub longitude : HasDecimal body 4 fix.longitude
  pub altitude : HasDecimal body 9 fix.altitude

-- `body` is that of the sentence `line`, where `line` has it
pub record HasBody (line body : Part) : Type 0 where
  pub sentence : IsSentence (part_text line) (part_text body)
  pub whole : body.whole ≡ line.whole
  pub start : body.start ≡ line.start + 1

-- `found` is the field at `index` of `body`, counted from 0, where `body` has it, or `None` if there
-- are no more than `index` fields
pub record FindsField (body : Part) (index : ℕ) (found : Option Part) : Type 0 where
  pub fields : List (AsciiStr × WithStart (List ℕ))
  pub cut : ArePiecesOf 44 body fields
  pub at : option_map in_whole found ≡ slice_get fields index

-- `part` is what is at fault in `line`. `NoField`: the body, which has no field of this index.
-- `Field`: the field of this index. Otherwise it is the line.
abbrev pub IsAtFault : Part → Part → What → Type 0
IsAtFault line part (NoField index) = HasBody line part × FindsField part index None
IsAtFault line part (Field index) =
    (body : Part) × HasBody line body × FindsField body index (Some part)
IsAtFault line part what = part ≡ line

-- the part of the error is what is at fault in `line`
abbrev pub IsFaultIn : Part → FixError → Type 0
IsFaultIn line error = IsAtFault line error.0 error.1
