-- Decimal numbers: a `-` or none, one digit or more, and perhaps a point and one digit or more.
-- `digits_value 10` is std's word for the number that decimal digits write, `AllDigits 10` for
-- decimal digits and nothing else. A code is a decimal digit if its `digit_value`, std's word too,
-- is less than 10.
use Rattle.std.specs.Prelude.{◌≡◌, ◌≢◌, ℕ, ◌+◌, ◌^◌, ◌<◌, ◌≤◌, List, [], ◌∷◌, ◌++◌, All, Bool}
use Rattle.std.specs.Prelude.{IfSome, None, Option, Some, codes, cond, drop, length, slice_index}
use Rattle.std.specs.Prelude.{take, ◌-◌, ◌/◌, ◌%◌, ◌==◌, decimal, replicate}
use Rattle.std.specs.Char.{digit_value}
use Rattle.std.specs.Int.{from_bool}
use Rattle.std.specs.Str.Parse.{AllDigits, digits_value, digits_value_after, starts_with_minus}
use Rattle.ascii_formats.specs.declared.decimals.Decimal.{Decimal}
use Rattle.ascii_formats.specs.declared.numbers.NumberError.{NumberError}
use Rattle.ascii_formats.specs.declared.numbers.NumberError.TheVariants.{Empty, NotDigit, TooLarge}
use Rattle.ascii.specs.Trim.{TrimsEnd}

-- the code is that of the digit 0
abbrev pub IsZeroCode : ℕ → Type 0
IsZeroCode code = code ≡ 48

-- a `-` if `minus`, and nothing otherwise
abbrev pub sign_text : Bool → List ℕ
sign_text minus = cond minus (codes "-") []

-- a point and the digits after it, or nothing if there is no point
abbrev pub point_text : Option (List ℕ) → List ℕ
point_text None = []
point_text (Some digits) = 46 ∷ digits

-- the digits after the point: none if there is no point
abbrev pub point_digits : Option (List ℕ) → List ℕ
point_digits None = []
point_digits (Some digits) = digits

-- `text` is a `-` if `minus`, the digits `whole`, and the digits `fraction` after a point, or
-- no point; a point has a digit before it
pub record StartsDecimal (minus : Bool) (whole : List ℕ) (fraction : Option (List ℕ))
    (text : List ℕ) : Type 0 where
  pub joined : sign_text minus ++ (whole ++ point_text fraction) ≡ text
  pub digits : AllDigits 10 (whole ++ point_digits fraction)
  pub point : IfSome fraction (λ _. whole ≢ [])

-- `text` is one digit or more, after a `-` if `d` is negative; after a point, if there is one, come
-- one digit or more, of which `kept` are those without the zeros at the end. `d` has the number of
-- the digits before the point and of `kept`, which a `u64` holds, and how many `kept` are.
pub record WritesDecimal (text : List ℕ) (d : Decimal) : Type 0 where
  pub whole : List ℕ
  pub fraction : Option (List ℕ)
  pub kept : List ℕ
  pub parts : StartsDecimal d.negative whole fraction text
  pub some : whole ≢ []
  pub after : IfSome fraction (λ digits. digits ≢ [])
  pub trimmed : TrimsEnd IsZeroCode (point_digits fraction) kept
  pub digits : d.digits ≡ digits_value 10 (whole ++ kept)
  pub fits : d.digits < 2 ^ 64
  pub places : d.places ≡ length kept

-- the position `p` is in the text, and before it come the sign of the text, the digits `whole` and
-- perhaps a point and the digits `fraction`; a `u64` holds the number of these digits
pub record ComesBefore (whole : List ℕ) (fraction : Option (List ℕ)) (text : List ℕ) (p : ℕ)
    : Type 0 where
  pub inside : p < length text
  pub start : StartsDecimal (starts_with_minus text) whole fraction (take p text)
  pub fits : digits_value 10 (whole ++ point_digits fraction) < 2 ^ 64

-- the code at `p` is the only point up to there, has a digit before it, and is not the last code
abbrev pub MayBePoint : List ℕ → Option (List ℕ) → List ℕ → ℕ → Type 0
MayBePoint whole fraction text p =
    (slice_index text p ≡ 46) × (fraction ≡ None) × (whole ≢ []) × (p + 1 < length text)

-- the code at `p` is after the point, and is one of the zeros at the end of the text
abbrev pub IsDropped : Option (List ℕ) → List ℕ → ℕ → Type 0
IsDropped fraction text p = (fraction ≢ None) × All IsZeroCode (drop p text)

-- Why a text does not write a decimal number. `Empty`: it is empty, or a `-` alone. Otherwise the
-- first position at fault: of a character that is neither a digit nor a point that may be there, or
-- of the digit, which is not one of the zeros at the end of the fraction, with which the number of
-- the digits is more than a `u64` holds.
abbrev pub IsDecimalFault : List ℕ → NumberError → Type 0
IsDecimalFault text Empty = drop (from_bool (starts_with_minus text)) text ≡ []
IsDecimalFault text (NotDigit p) = (whole : List ℕ) × (fraction : Option (List ℕ))
    × ComesBefore whole fraction text p
    × (10 ≤ digit_value (slice_index text p))
    × ¬ (MayBePoint whole fraction text p)
IsDecimalFault text (TooLarge p) = (whole : List ℕ) × (fraction : Option (List ℕ))
    × ComesBefore whole fraction text p
    × (digit_value (slice_index text p) < 10)
    × (2 ^ 64 ≤ digits_value 10 (whole ++ (point_digits fraction ++ slice_index text p ∷ [])))
    × ¬ (IsDropped fraction text p)

-- the point and the fraction of `digits / 10 ^ places`, in as many digits as there are places
abbrev pub fraction_text : ℕ → ℕ → List ℕ
fraction_text digits places =
    let fraction = decimal (digits % 10 ^ places) in
    cond (places == 0) [] (46 ∷ (replicate (places - length fraction) 48 ++ fraction))

-- the output of a decimal number: its sign, the digits before the point, and the fraction
abbrev pub decimal_text : Decimal → List ℕ
decimal_text d =
    sign_text d.negative ++ (decimal (d.digits / 10 ^ d.places) ++ fraction_text d.digits d.places)

-- ---- only private calls cite the following

-- the first `i` of `codes` are digits, and with the digits of `number` before them they write a
-- number that a `u64` holds
pub record Continues (number : ℕ) (codes : List ℕ) (i : ℕ) : Type 0 where
  pub inside : i < length codes
  pub digits : AllDigits 10 (take i codes)
  pub fits : digits_value_after 10 number (take i codes) < 2 ^ 64

-- why `codes`, which start at `start`, are not digits that go on from `number` in a `u64`
abbrev pub IsDigitFault : ℕ → ℕ → List ℕ → NumberError → Type 0
IsDigitFault start number codes Empty = ⊥
IsDigitFault start number codes (NotDigit p) = (i : ℕ) × (p ≡ start + i)
    × Continues number codes i × (10 ≤ digit_value (slice_index codes i))
IsDigitFault start number codes (TooLarge p) = (i : ℕ) × (p ≡ start + i)
    × Continues number codes i × (digit_value (slice_index codes i) < 10)
    × (2 ^ 64 ≤ digits_value_after 10 number (take (i + 1) codes))
