-- The classes of characters, as sets of codes.
use Rattle.std.specs.Prelude.{◌⊎◌, ℕ, ◌≡◌, ◌-◌, ◌<◌, Option, Some, None, IsSomeAnd, if◌then◌else◌}
use Rattle.std.specs.Prelude.{nat_le, ◌&&◌, ◌||◌, codes, List, [], ◌∷◌, Bool, false}
use Rattle.std.specs.List.{Contains}
use Rattle.std.specs.Int.{IsInRange, is_in_range}

-- whether a code is in one of the ranges, each given by its first and its last code
abbrev pub in_ranges : List (ℕ × ℕ) → ℕ → Bool
in_ranges [] n = false
in_ranges (r ∷ rs) n = is_in_range r.0 r.1 n || in_ranges rs n

-- `A` to `Z`
abbrev pub IsUppercase : ℕ → Type 0
IsUppercase n = IsInRange 65 90 n

-- `a` to `z`
abbrev pub IsLowercase : ℕ → Type 0
IsLowercase n = IsInRange 97 122 n

-- a letter
abbrev pub IsAlphabetic : ℕ → Type 0
IsAlphabetic n = IsInRange 65 90 n ⊎ IsInRange 97 122 n

-- `0` to `9`
abbrev pub IsDigit : ℕ → Type 0
IsDigit n = IsInRange 48 57 n

-- a digit or a letter
abbrev pub IsAlphanumeric : ℕ → Type 0
IsAlphanumeric n = IsInRange 48 57 n ⊎ IsInRange 65 90 n ⊎ IsInRange 97 122 n

-- `0` to `9`, `A` to `F`, `a` to `f`
abbrev pub IsHexdigit : ℕ → Type 0
IsHexdigit n = IsInRange 48 57 n ⊎ IsInRange 65 70 n ⊎ IsInRange 97 102 n

-- tab or space
abbrev pub IsBlank : ℕ → Type 0
IsBlank n = (n ≡ 9) ⊎ (n ≡ 32)

-- tab, line feed, vertical tab, form feed, carriage return or space
abbrev pub IsWhitespace : ℕ → Type 0
IsWhitespace n = IsInRange 9 13 n ⊎ (n ≡ 32)

-- tab, line feed, form feed, carriage return or space, but not vertical tab
abbrev pub IsAsciiWhitespace : ℕ → Type 0
IsAsciiWhitespace n = (n ≡ 9) ⊎ (n ≡ 10) ⊎ (n ≡ 12) ⊎ (n ≡ 13) ⊎ (n ≡ 32)

-- a control character: 0 to 31, or delete
abbrev pub IsControl : ℕ → Type 0
IsControl n = IsInRange 0 31 n ⊎ (n ≡ 127)

-- a visible (graphic) character
abbrev pub IsGraphic : ℕ → Type 0
IsGraphic n = IsInRange 33 126 n

-- a visible (graphic) character or a space
abbrev pub IsPrintable : ℕ → Type 0
IsPrintable n = IsInRange 32 126 n

-- a visible (graphic) character that is neither a digit nor a letter
abbrev pub IsPunctuation : ℕ → Type 0
IsPunctuation n = IsInRange 33 47 n ⊎ IsInRange 58 64 n ⊎ IsInRange 91 96 n ⊎ IsInRange 123 126 n

-- a character of a token, such as the name of a header: a letter, a digit or one of these marks
unfoldable pub IsTokenCode : ℕ → Type 0
IsTokenCode n = IsAlphanumeric n ⊎ Contains (codes "!#$%&'*+-.^_`|~") n

-- a character of a label of a host name: a letter, a digit or a hyphen
abbrev pub IsLabelCode : ℕ → Type 0
IsLabelCode n = IsAlphanumeric n ⊎ (n ≡ 45)

-- a character of the value of an HTTP header field: tab, space or a visible (graphic) character
abbrev pub IsFieldTextCode : ℕ → Type 0
IsFieldTextCode n = (n ≡ 9) ⊎ IsInRange 32 126 n

-- a character that a quoted string of HTTP or mail may have without a backslash before it: tab,
-- space or a visible (graphic) character, but not `"` or a backslash
abbrev pub IsQuotableCode : ℕ → Type 0
IsQuotableCode n = (n ≡ 9) ⊎ IsInRange 32 33 n ⊎ IsInRange 35 91 n ⊎ IsInRange 93 126 n

-- a character of an atom of a mail header: a letter, a digit, or one of `!`, `#` to `'`, `*`, `+`,
-- `-`, `/`, `=`, `?`, `^`, `_`, a backquote and `{` to `~`
abbrev pub IsAtomCode : ℕ → Type 0
IsAtomCode n = IsAlphanumeric n ⊎ (n ≡ 33) ⊎ IsInRange 35 39 n ⊎ IsInRange 42 43 n ⊎ (n ≡ 45)
    ⊎ (n ≡ 47) ⊎ (n ≡ 61) ⊎ (n ≡ 63) ⊎ IsInRange 94 96 n ⊎ IsInRange 123 126 n

-- the value of a code as a digit: 0 to 9 for `0` to `9`, and 10 to 35 for a letter of either case
abbrev pub digit_value : ℕ → Option ℕ
digit_value n = if nat_le 48 n && nat_le n 57 then Some (n - 48)
    else (if nat_le 65 n && nat_le n 90 then Some (n - 55)
    else (if nat_le 97 n && nat_le n 122 then Some (n - 87) else None))

-- the code `n` is a digit in `radix`
abbrev pub IsDigitIn : ℕ → ℕ → Type 0
IsDigitIn radix n = IsSomeAnd (digit_value n) (λ d. d < radix)
