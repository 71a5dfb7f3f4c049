-- The numbers that digits write, and why a text does not write one. `digits_value radix` is std's
-- word for the number that digits write, and `AllDigits radix` for digits and nothing else. A code
-- is a digit in the radix if its `digit_value`, std's word too, is less than the radix.
use Rattle.std.specs.Prelude.{◌≡◌, ◌≢◌, ℕ, ◌+◌, ◌<◌, ◌≤◌, List, [], ◌++◌, length, take, drop, codes}
use Rattle.std.specs.Prelude.{Bool, false, true, cond, ◌&&◌, ℤ, pos, neg_ℤ, unsigned_abs}
use Rattle.std.specs.Prelude.{IfSome, decimal, slice_get, slice_index}
use Rattle.std.specs.Char.{digit_value}
use Rattle.std.specs.Int.{from_bool}
use Rattle.std.specs.Str.Parse.{AllDigits, digits_value, starts_with_minus}
use Rattle.ascii_formats.specs.declared.numbers.NumberError.{NumberError}
use Rattle.ascii_formats.specs.declared.numbers.NumberError.TheVariants.{Empty, NotDigit, TooLarge}

-- The numbers of a type: whether a `-` at the start of a text is a sign, the largest size of a
-- number, the number of a size, and the size of a number. `most` and `number` are asked for numbers
-- from 0 up by `false`, and for those from 0 down by `true`.
pub record NumberRange (N : Type 0) : Type 0 where
  pub signed : Bool
  pub most : Bool → ℕ
  pub number : Bool → ℕ → N
  pub size : N → ℕ

-- the numbers from 0 to `most`, without a sign
abbrev pub unsigned_up_to : ℕ → NumberRange ℕ
unsigned_up_to most = record {
  signed = false;
  most = λ _. most;
  number = λ _ size. size;
  size = λ n. n;
}

-- the numbers from `-(most + 1)` to `most`
abbrev pub signed_up_to : ℕ → NumberRange ℤ
signed_up_to most = record {
  signed = true;
  most = λ minus. cond minus (most + 1) most;
  number = λ minus size. cond minus (neg_ℤ (pos size)) (pos size);
  size = unsigned_abs;
}

-- the text begins with a `-` that is a sign
abbrev pub has_sign : {N : Type 0} → NumberRange N → List ℕ → Bool
has_sign range text = range.signed && starts_with_minus text

-- the text after its sign, or all of it if it has none
abbrev pub without_sign : {N : Type 0} → NumberRange N → List ℕ → List ℕ
without_sign range text = drop (from_bool (has_sign range text)) text

-- `digits` are digits in the radix, and the number that they write is at most `most`
abbrev pub IsNumberUpTo : ℕ → ℕ → List ℕ → Type 0
IsNumberUpTo radix most digits = AllDigits radix digits × (digits_value radix digits ≤ most)

-- `text` is one digit or more in the radix, after a sign if it has one, and writes `n` of the range
pub record WritesNumberIn {N : Type 0} (range : NumberRange N) (radix : ℕ) (text : List ℕ) (n : N)
    : Type 0 where
  pub some : without_sign range text ≢ []
  pub number : IsNumberUpTo radix (range.most (has_sign range text)) (without_sign range text)
  pub value : n ≡ range.number (has_sign range text) (digits_value radix (without_sign range text))

-- `text` is one decimal digit or more, and the number that they write is `n`, at most `most`
abbrev pub WritesNumber : ℕ → List ℕ → ℕ → Type 0
WritesNumber most text n = WritesNumberIn (unsigned_up_to most) 10 text n

-- `text` is a part that writes `n`, and `rest`, which does not begin with a digit
pub record StartsWithNumber {N : Type 0} (range : NumberRange N) (radix : ℕ) (text : List ℕ) (n : N)
    (rest : List ℕ) : Type 0 where
  pub part : List ℕ
  pub joined : part ++ rest ≡ text
  pub number : WritesNumberIn range radix part n
  pub longest : IfSome (slice_get rest 0) (λ next. radix ≤ digit_value next)

-- the position `p` is in the text, after its sign, and between them are digits that write a number
-- of the range
pub record IsAfterNumber {N : Type 0} (range : NumberRange N) (radix : ℕ) (text : List ℕ) (p : ℕ)
    : Type 0 where
  pub after : from_bool (has_sign range text) ≤ p
  pub inside : p < length text
  pub number : IsNumberUpTo radix (range.most (has_sign range text))
      (drop (from_bool (has_sign range text)) (take p text))

-- Why a text does not write a number of the range. `Empty`: it is empty, or a sign alone. Otherwise
-- the first position at fault: of a character that is not a digit, or of the digit with
-- which the number leaves the range.
abbrev pub IsFaultIn : {N : Type 0} → NumberRange N → ℕ → List ℕ → NumberError → Type 0
IsFaultIn range radix text Empty = without_sign range text ≡ []
IsFaultIn range radix text (NotDigit p) = IsAfterNumber range radix text p
    × (radix ≤ digit_value (slice_index text p))
IsFaultIn range radix text (TooLarge p) = IsAfterNumber range radix text p
    × (digit_value (slice_index text p) < radix)
    × (range.most (has_sign range text)
    < digits_value radix (drop (from_bool (has_sign range text)) (take (p + 1) text)))

-- why a text does not write a number of at most `most` in decimal digits
abbrev pub IsNumberFault : ℕ → List ℕ → NumberError → Type 0
IsNumberFault most text error = IsFaultIn (unsigned_up_to most) 10 text error

-- why a text does not start with a number of the range: a character that is not a digit is then at
-- the start, or after the sign
abbrev pub IsStartFault : {N : Type 0} → NumberRange N → ℕ → List ℕ → NumberError → Type 0
IsStartFault range radix text Empty = IsFaultIn range radix text Empty
IsStartFault range radix text (NotDigit p) =
    (p ≡ from_bool (has_sign range text)) × IsFaultIn range radix text (NotDigit p)
IsStartFault range radix text (TooLarge p) = IsFaultIn range radix text (TooLarge p)

-- the output of an error
abbrev pub number_error_text : NumberError → List ℕ
number_error_text Empty = codes "no digits"
number_error_text (NotDigit p) =
    codes "the character at index " ++ decimal p ++ codes " is not a digit"
number_error_text (TooLarge p) = codes "the number is too large at index " ++ decimal p

-- ---- only private calls cite the following

-- the digits after the sign of the text end at `end`, and they write `n` of the range
pub record LeadsWithNumber {N : Type 0} (range : NumberRange N) (radix : ℕ) (text : List ℕ) (n : N)
    (end : ℕ) : Type 0 where
  pub after : from_bool (has_sign range text) ≤ end
  pub inside : end ≤ length text
  pub number : IsNumberUpTo radix (range.most (has_sign range text))
      (drop (from_bool (has_sign range text)) (take end text))
  pub value : n ≡ range.number (has_sign range text)
      (digits_value radix (drop (from_bool (has_sign range text)) (take end text)))
  pub longest : end < length text → radix ≤ digit_value (slice_index text end)
