-- Numbers that grow digit by digit.
use Rattle.std.proofs.Common.{◌≡◌, ◌≢◌, ℕ, zero, suc, ◌+◌, ◌-◌, ◌*◌, ◌^◌, ◌<◌, ◌≤◌, List, [], ◌∷◌}
use Rattle.std.proofs.Common.{drop, get_or, length, take, Result, Ok, arith, sym, lit≤}
use Rattle.std.specs.Prelude.{IfSome, MatchResult, decimal, slice_get, slice_index, FitsSigned, ℤ}
use Rattle.std.specs.Fmt.{signed_decimal}
use Rattle.std.specs.Int.{Width, from_bool}
use mir.Val.{hbits}
use Rattle.std.proofs.lemmas.Fmt.{decimal_is_IsNumeral_wide}
use Rattle.std.proofs.lemmas.List.{drop-take, get_or-drop, get_or-take, length-drop, take_all}
use Rattle.std.proofs.lemmas.List.{length-take, take-append-drop}
use Rattle.std.proofs.lemmas.Str.Parse.{digit_at, digits_value-take-le}
use Rattle.std.proofs.lemmas.Int.Digits.{digits_more, digits_value_more}
use Rattle.std.proofs.lemmas.Bool.{ne_eqb}
use Rattle.std.specs.Char.{digit_value}
use Rattle.std.specs.Str.Parse.{AllDigits, IsNumeral, digits_value}
use Rattle.ascii_formats.specs.Numbers.{IsFaultIn, IsNumberFault, LeadsWithNumber, NumberRange}
use Rattle.ascii_formats.specs.Numbers.{StartsWithNumber, WritesNumber, WritesNumberIn, has_sign}
use Rattle.ascii_formats.specs.Numbers.{signed_up_to, without_sign}
use Rattle.ascii_formats.specs.declared.numbers.NumberError.{NumberError}
use Rattle.ascii_formats.specs.declared.numbers.NumberError.TheVariants.{Empty, NotDigit, TooLarge}

-- the codes from `start` up to `end` are the first of those from `start` on
between : (text : List ℕ) (start end : ℕ) → start ≤ end
    → drop start (take end text) ≡ take (end - start) (drop start text)
between text start end order = grind (arith, drop-take start (end - start) text)

-- those up to the next position are one more of them
one_more : (text : List ℕ) (start i : ℕ) → start ≤ i
    → drop start (take (i + 1) text) ≡ take ((i - start) + 1) (drop start text)
one_more text start i order = grind (arith, between)

-- the code at a position is among those from `start` on
code_at : (text : List ℕ) (start i : ℕ) → start ≤ i
    → get_or (drop start text) (i - start) 0 ≡ get_or text i 0
code_at text start i order = grind (arith, get_or-drop)

-- digits with one more digit are digits
pub more_digits : (radix : ℕ) (text : List ℕ) (start i : ℕ) → start ≤ i → i < length text
    → AllDigits radix (drop start (take i text)) → digit_value (get_or text i 0) < radix
    → AllDigits radix (drop start (take (i + 1) text))
more_digits radix text start i order inside digits is =
    grind (arith, digits_more, length-drop, between, code_at, one_more)

-- the number of digits with one more digit
pub more_value : (radix : ℕ) (text : List ℕ) (start i n digit : ℕ) → start ≤ i → i < length text
    → n ≡ digits_value radix (drop start (take i text)) → digit ≡ digit_value (get_or text i 0)
    → n * radix + digit ≡ digits_value radix (drop start (take (i + 1) text))
more_value radix text start i n digit order inside value is =
    grind (arith, digits_value_more, length-drop, one_more, between, code_at)

-- digits up to the end of the text are the whole number
pub whole_number : {N : Type 0} (range : NumberRange N) (radix : ℕ) (text : List ℕ) (n : N)
    (end : ℕ) → LeadsWithNumber range radix text n end → length text ≤ end
    → end ≢ from_bool (has_sign range text) → WritesNumberIn range radix text n
whole_number range radix text n end read all some = grind (arith, take_all, length-drop)

-- the start of a text has the sign of the text
sign_of_start : {N : Type 0} (range : NumberRange N) (text : List ℕ) (end : ℕ) → 0 < end
    → has_sign range (take end text) ≡ has_sign range text
sign_of_start range text end some = grind (arith, get_or-take)

-- the code at `end`, if there is one, is the first of those from there on
next_code : (P : ℕ → Type 0) (text : List ℕ) (end : ℕ)
    → (end < length text → P (slice_index text end)) → IfSome (slice_get (drop end text) 0) P
next_code P [] zero is = tt
next_code P [] (suc end) is = tt
next_code P (code ∷ codes) zero is = is (omega arith)
next_code P (code ∷ codes) (suc end) is =
    next_code P codes end (λ inside. is (omega (arith, inside)))

-- digits up to `end` are a number at the start
pub number_at_start : {N : Type 0} (range : NumberRange N) (radix : ℕ) (text : List ℕ) (n : N)
    (end : ℕ) → LeadsWithNumber range radix text n end → from_bool (has_sign range text) < end
    → StartsWithNumber range radix text n (drop end text)
number_at_start range radix text n end read some =
    let part = take end text in
    let same = sym (sign_of_start range text end (omega (arith, some))) in
    record {
      part = part;
      joined = take-append-drop end text;
      number =
          grind (arith, length-drop (from_bool (has_sign range part)) part, length-take end text);
      longest = next_code _ text end read.longest;
    }

-- each of the digits is one
digit_in : (radix : ℕ) (digits : List ℕ) (i : ℕ) → AllDigits radix digits → i < length digits
    → digit_value (get_or digits i 0) < radix
digit_in radix [] i all inside = absurd (omega (arith, inside))
digit_in radix (digit ∷ digits) zero all inside = all.0
digit_in radix (digit ∷ digits) (suc i) all inside =
    digit_in radix digits i all.1 (omega (arith, inside))

-- a text of digits after a sign, if it has one, is not at fault if their number is in the range
pub no_fault_in : {N : Type 0} (range : NumberRange N) (radix : ℕ) (text : List ℕ) (e : NumberError)
    → 1 ≤ radix → IsNumeral radix (without_sign range text)
    → digits_value radix (without_sign range text) ≤ range.most (has_sign range text)
    → ¬ (IsFaultIn range radix text e)
no_fault_in range radix text Empty some numeral fits fault = grind arith
no_fault_in range radix text (NotDigit p) some numeral fits fault =
    let start = from_bool (has_sign range text) in
    let at = code_at text start p fault.0.after in
    grind (arith, digit_in, length-drop)
no_fault_in range radix text (TooLarge p) some numeral fits fault =
    grind (arith, one_more, digits_value-take-le)

-- it is read as that number
pub reads_number_in : {N : Type 0} (range : NumberRange N) (radix : ℕ) (text : List ℕ)
    (result : Result N NumberError)
    → MatchResult result (WritesNumberIn range radix text) (IsFaultIn range radix text)
    → 1 ≤ radix → IsNumeral radix (without_sign range text)
    → digits_value radix (without_sign range text) ≤ range.most (has_sign range text)
    → result
    ≡ Ok (range.number (has_sign range text) (digits_value radix (without_sign range text)))
reads_number_in range radix text result says some numeral fits = grind (arith, no_fault_in)

-- a text of decimal digits is read, if an unsigned type holds their number
pub no_fault : (most : ℕ) (text : List ℕ) (e : NumberError) → IsNumeral 10 text
    → digits_value 10 text ≤ most → ¬ (IsNumberFault most text e)
no_fault most text e numeral fits = grind (arith, no_fault_in, lit≤)

-- the digits that `decimal` writes of a number are read as it
pub reads_decimal : (most n : ℕ) (result : Result ℕ NumberError)
    → MatchResult result (WritesNumber most (decimal n)) (IsNumberFault most (decimal n))
    → n < 10 ^ 64 → n ≤ most → result ≡ Ok n
reads_decimal most n result says wide fits =
    grind (arith, decimal_is_IsNumeral_wide, reads_number_in, lit≤)

-- the sign and the digits that `signed_decimal` writes of a number are read as it
pub reads_signed_decimal : (w : Width) (z : ℤ) (result : Result ℤ NumberError)
    → let text = signed_decimal z in let range = signed_up_to (2 ^ hbits w - 1) in
    MatchResult result (WritesNumberIn range 10 text) (IsFaultIn range 10 text)
    → FitsSigned w z → result ≡ Ok z
reads_signed_decimal w z result says fits =
    grind (arith, decimal_is_IsNumeral_wide, ne_eqb, digit_at, reads_number_in, lit≤)
