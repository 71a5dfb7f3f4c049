-- How a shell reads a word that has quotes, byte by byte.
use Rattle.std.specs.Prelude.{◌≡◌, ◌⊎◌, ℕ, ◌+◌, ◌-◌, ◌*◌, List, [], ◌∷◌, ◌++◌, ◌==◌, ◌||◌}
use Rattle.std.specs.Prelude.{Bool, true, false, if◌then◌else◌, nat_lt}
use Rattle.std.specs.Int.{IsInRange}
use Rattle.std.specs.List.{All}
use Rattle.ascii.specs.Class.{IsPrintable}

-- where a shell is in a word: outside quotes, after a backslash there, after `$` there, in single
-- quotes, in double quotes, in `$'..'`, after a backslash there, and after one or two octal digits
-- of an escape with their value
pub data Reading : Type 0 where
  bare : Reading
  after_backslash : Reading
  after_dollar : Reading
  single : Reading
  double : Reading
  ansi : Reading
  ansi_backslash : Reading
  one_digit : ℕ → Reading
  two_digits : ℕ → Reading

-- where it is after one more byte: 34 is `"`, 36 is `$`, 39 is `'`, 92 is the backslash, 56 is `8`
abbrev pub next_reading : Reading → ℕ → Reading
next_reading bare c =
    if c == 39 then single else if c == 34 then double else if c == 92 then after_backslash
    else if c == 36 then after_dollar else bare
next_reading after_backslash c = bare
next_reading after_dollar c = if c == 39 then ansi else bare
next_reading single c = if c == 39 then bare else single
next_reading double c = if c == 34 then bare else double
next_reading ansi c = if c == 39 then bare else if c == 92 then ansi_backslash else ansi
next_reading ansi_backslash c = if nat_lt c 56 then one_digit (c - 48) else ansi
next_reading (one_digit n) c = two_digits (8 * n + (c - 48))
next_reading (two_digits n) c = ansi

-- the value of an escape of one letter: `a` is BEL, `b` BS, `t` HT, `n` LF, `v` VT, `f` FF, `r` CR
abbrev pub letter_value : ℕ → ℕ
letter_value c =
    if c == 97 then 7 else if c == 98 then 8 else if c == 116 then 9 else if c == 110 then 10
    else if c == 118 then 11 else if c == 102 then 12 else if c == 114 then 13 else c

-- the bytes of the word that this byte gives: itself, unless it is part of quotes or of an escape
abbrev pub bytes_given : Reading → ℕ → List ℕ
bytes_given bare c =
    if c == 39 || (c == 34 || (c == 92 || c == 36)) then [] else c ∷ []
bytes_given after_backslash c = c ∷ []
bytes_given after_dollar c = if c == 39 then [] else 36 ∷ c ∷ []
bytes_given single c = if c == 39 then [] else c ∷ []
bytes_given double c = if c == 34 then [] else c ∷ []
bytes_given ansi c = if c == 39 || c == 92 then [] else c ∷ []
bytes_given ansi_backslash c = if nat_lt c 56 then [] else letter_value c ∷ []
bytes_given (one_digit n) c = []
bytes_given (two_digits n) c = (8 * n + (c - 48)) ∷ []

-- the bytes that a text gives, and where the shell is after it
abbrev pub word_from : Reading → List ℕ → List ℕ
word_from reading [] = []
word_from reading (c ∷ cs) = bytes_given reading c ++ word_from (next_reading reading c) cs

abbrev pub reading_after : Reading → List ℕ → Reading
reading_after reading [] = reading
reading_after reading (c ∷ cs) = reading_after (next_reading reading c) cs

-- a shell reads the text as the word `name`, and is outside quotes at its end
abbrev pub Reads : List ℕ → List ℕ → Type 0
Reads text name = (word_from bare text ≡ name) × (reading_after bare text ≡ bare)

-- the byte is printable ASCII or LF
abbrev pub IsPlain : ℕ → Type 0
IsPlain n = IsPrintable n ⊎ (n ≡ 10)

-- ---- cited by private functions only

-- the byte needs no quotes, except at the start of a name
abbrev pub IsBare : ℕ → Type 0
IsBare n = (n ≡ 35) ⊎ (n ≡ 37) ⊎ IsInRange 43 57 n ⊎ IsInRange 64 90 n ⊎ (n ≡ 93) ⊎ (n ≡ 95)
    ⊎ IsInRange 97 123 n ⊎ IsInRange 125 126 n

-- the byte is itself in double quotes
abbrev pub IsDoubled : ℕ → Type 0
IsDoubled n = (n ≡ 32) ⊎ (n ≡ 37) ⊎ (n ≡ 39) ⊎ IsInRange 43 58 n ⊎ IsInRange 64 90 n ⊎ (n ≡ 93)
    ⊎ (n ≡ 95) ⊎ IsInRange 97 122 n

-- where the shell is after a byte of a name in single quotes: in `$'..'` if it was escaped
abbrev pub reading_of : Bool → Reading
reading_of true = ansi
reading_of false = single

-- the text gained printable characters, which give the byte and lead to another reading
abbrev pub Adds : List ℕ → List ℕ → Reading → ℕ → Reading → Type 0
Adds old new before byte after = (token : List ℕ) × (new ≡ old ++ token) × All IsPrintable token
    × (word_from before token ≡ byte ∷ []) × (reading_after before token ≡ after)
