-- Fields of a CSV file, between commas; in quotes if they have a comma, a quote or a line break.
use Rattle.std.specs.Prelude.{◌≡◌, ℕ, ◌+◌, ◌⊎◌, List, [], ◌∷◌, ◌++◌, length, ⊤}
use Rattle.std.specs.Int.{IsInRange}
use Rattle.std.specs.List.{All}
use Rattle.ascii.specs.Search.{StartsWith}
use Rattle.ascii.specs.Trim.{IsSpan}
use Rattle.ascii_formats.specs.Quotes.{StartsQuoted, quoted_text, unquoted}
use Rattle.cookbook.specs.declared.csv.FieldError.{FieldError}
use Rattle.cookbook.specs.declared.csv.FieldError.TheVariants.{Memory, NotClosed, NotComma}

-- a code that a field without quotes may have: not a comma, a quote, CR or LF
abbrev pub IsPlainCode : ℕ → Type 0
IsPlainCode code = IsInRange 0 9 code ⊎ IsInRange 11 12 code ⊎ IsInRange 14 33 code
    ⊎ IsInRange 35 43 code ⊎ IsInRange 45 127 code

-- `line` begins with a field that has `text`, and `rest` comes after it: it begins with a quote,
-- and what is in quotes represents `text`; or it does not, and `text` is its longest start of plain
-- codes
abbrev pub HasField : List ℕ → List ℕ → List ℕ → Type 0
HasField line text rest =
    ((inside : List ℕ) × StartsQuoted 34 34 line inside rest × (text ≡ unquoted 34 inside))
    ⊎ (¬ (StartsWith (34 ∷ []) line) × IsSpan IsPlainCode line text rest)

-- `rest` is what may come after a field: nothing, or a comma and more
abbrev pub EndsField : List ℕ → Type 0
EndsField rest = (rest ≡ []) ⊎ StartsWith (44 ∷ []) rest

-- `line` begins with a field that has `text`, and `rest` comes after it, which begins with a comma
-- or is empty
abbrev pub StartsWithField : List ℕ → List ℕ → List ℕ → Type 0
StartsWithField line text rest = HasField line text rest × EndsField rest

-- why no field is at the start of `line`. `NotClosed`: it begins with a quote, and no quoted text
-- is there. `NotComma`: a field is there, and another code than a comma comes after it, at `p`.
-- `Memory` says nothing of `line`
abbrev pub IsFieldError : List ℕ → FieldError → Type 0
IsFieldError line NotClosed = StartsWith (34 ∷ []) line
    × ((inside rest : List ℕ) → ¬ (StartsQuoted 34 34 line inside rest))
IsFieldError line (NotComma p) = (text : List ℕ) × (rest : List ℕ) × HasField line text rest
    × (p + length rest ≡ length line) × ¬ (EndsField rest)
IsFieldError line Memory = ⊤

-- `field` is what `text` is written as: plain codes as they are, and others in quotes. Before what
-- may come after a field, it is read back as `text`
pub record IsWrittenField (text field : List ℕ) : Type 0 where
  pub form : (All IsPlainCode text × (field ≡ text))
      ⊎ (¬ (All IsPlainCode text) × (field ≡ quoted_text 34 34 text))
  pub back : (rest : List ℕ) → EndsField rest → StartsWithField (field ++ rest) text rest
