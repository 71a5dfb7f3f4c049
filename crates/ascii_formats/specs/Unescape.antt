-- The inverse of std's `escape_ascii`: the text that a text with escapes represents.
use Rattle.std.specs.Prelude.{◌≡◌, ◌≢◌, ℕ, ◌+◌, ◌*◌, ◌<◌, ◌≤◌, ◌⊎◌, List, [], ◌∷◌, ◌++◌, codes}
use Rattle.std.specs.Prelude.{decimal, drop, length, take}
use Rattle.std.specs.Char.{digit_value}
use Rattle.std.specs.Char.Escape.{backslash, short_escape}
use Rattle.std.specs.List.{AllZip, concat}
use Rattle.ascii_formats.specs.declared.unescape.UnescapeError.{UnescapeError}
use Rattle.ascii_formats.specs.declared.unescape.UnescapeError.TheVariants.{Invalid, Memory, NotAscii}

-- `piece` is a backslash and the letter of the code, as in `\n`
abbrev pub IsShortEscapeOf : List ℕ → ℕ → Type 0
IsShortEscapeOf piece code =
    (piece ≡ backslash ∷ short_escape code ∷ []) × (0 < short_escape code)

-- `piece` is `\x` and two hexadecimal digits, in either case, that write the code
abbrev pub IsHexEscapeOf : List ℕ → ℕ → Type 0
IsHexEscapeOf piece code = (high low : ℕ) × (piece ≡ backslash ∷ 120 ∷ high ∷ low ∷ [])
    × (digit_value high < 16) × (digit_value low < 16)
    × (code ≡ digit_value high * 16 + digit_value low)

-- `piece` represents the code: it is the code itself, not a backslash, or an escape of it
abbrev pub StandsFor : List ℕ → ℕ → Type 0
StandsFor piece code = ((piece ≡ code ∷ []) × (code ≢ backslash))
    ⊎ (IsShortEscapeOf piece code ⊎ IsHexEscapeOf piece code)

-- `text` is pieces that represent the codes of `result`, one by one
abbrev pub Unescapes : List ℕ → List ℕ → Type 0
Unescapes text result =
    (pieces : List (List ℕ)) × (concat pieces ≡ text) × AllZip StandsFor pieces result

-- no piece at the start of `text` represents a code
abbrev pub HasNoPiece : List ℕ → Type 0
HasNoPiece text = (piece rest : List ℕ) (code : ℕ) → piece ++ rest ≡ text → ¬ (StandsFor piece code)

-- the position `p` is in the text, and what comes before it can be unescaped
abbrev pub IsReadUpTo : List ℕ → ℕ → Type 0
IsReadUpTo text p = (p < length text) × ((result : List ℕ) × Unescapes (take p text) result)

-- What is wrong with `text`. `Invalid`: no piece at `p` represents a code. `NotAscii`: the piece at
-- `p` represents a code above 127. It is never `Memory`.
abbrev pub IsFaultOfText : List ℕ → UnescapeError → Type 0
IsFaultOfText text (Invalid p) = IsReadUpTo text p × HasNoPiece (drop p text)
IsFaultOfText text (NotAscii p) = IsReadUpTo text p
    × ((size code : ℕ) × StandsFor (take size (drop p text)) code × (128 ≤ code))
IsFaultOfText text Memory = ⊥

-- Why `text` is not unescaped: what is wrong with it; or `Memory`, if it is not empty.
abbrev pub IsUnescapeFault : List ℕ → UnescapeError → Type 0
IsUnescapeFault text Memory = text ≢ []
IsUnescapeFault text fault = IsFaultOfText text fault

-- the output of an error
abbrev pub unescape_error_text : UnescapeError → List ℕ
unescape_error_text (Invalid p) = codes "no escape at index " ++ decimal p
unescape_error_text (NotAscii p) =
    codes "the escape at index " ++ decimal p ++ codes " is not ASCII"
unescape_error_text Memory = codes "no memory"

-- ---- cited by private functions only

-- the first `size` codes of `text` represent `code`
pub record StartsWithPiece (text : List ℕ) (code size : ℕ) : Type 0 where
  pub some : 0 < size
  pub inside : size ≤ length text
  pub stands : StandsFor (take size text) code
