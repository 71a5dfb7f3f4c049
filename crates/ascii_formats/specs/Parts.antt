-- Parts of a text, which keep their place in it.
use Rattle.std.specs.Prelude.{◌≡◌, ◌≢◌, ◌<◌, ◌≤◌, ◌⊎◌, ⊤, ℕ, ◌+◌, List, [], ◌∷◌, ◌++◌, codes}
use Rattle.std.specs.Prelude.{MatchOption, Option, decimal, length, map, slice_range, take}
use Rattle.std.specs.List.{All}
use Rattle.ascii.specs.ByClass.{IsOutside}
use Rattle.ascii.specs.Class.{IsDigit}
use Rattle.ascii.specs.Code.{code_of}
use Rattle.ascii.specs.declared.ascii_str.AsciiStr.{AsciiStr}
use Rattle.ascii_formats.specs.declared.parts.Expected.{Expected}
use Rattle.ascii_formats.specs.declared.parts.Expected.TheVariants.{Char, Characters, Digits}
use Rattle.ascii_formats.specs.declared.parts.Expected.TheVariants.{Named, Quoted}
use Rattle.ascii_formats.specs.declared.parts.ParseError.{ParseError}
use Rattle.ascii_formats.specs.declared.parts.ParseError.TheVariants.{At, Memory}
use Rattle.ascii_formats.specs.declared.numbers.NumberError.{NumberError}
use Rattle.ascii_formats.specs.declared.numbers.NumberError.TheVariants.{Empty, NotDigit, TooLarge}
use Rattle.ascii_formats.specs.declared.parts.Part.{Part}
use Rattle.ascii_formats.specs.declared.quotes.QuoteError.{QuoteError}
use Rattle.ascii_formats.specs.declared.quotes.QuoteError.TheVariants.{NoQuote, NotClosed}
use Rattle.ascii_formats.specs.Numbers.{IsFaultIn, NumberRange}
use Rattle.ascii_formats.specs.Quotes.{IsQuoteFault, StartsQuoted}
use Rattle.ascii.specs.Lines.{Line}
use Rattle.ascii.specs.Parts.{WithStart}
use Rattle.ascii.specs.Placed.{body_in}
use Rattle.ascii.specs.Search.{IsCut}
use Rattle.ascii.specs.Spans.{LineSpansOf, PieceSpans}
use Rattle.ascii.specs.Trim.{IsSpan, TrimsEnd, TrimsStart}
use Rattle.ascii.specs.View.{debug_text, text_of}

-- the text of `part`: that of its whole from its start to its end
unfoldable pub part_text : Part → List ℕ
part_text part = slice_range (text_of part.whole) part.start part.end

-- `new` is a part of the same whole as `old`, starts at `from` and ends where `old` does
pub record IsRestFrom (from : ℕ) (old new : Part) : Type 0 where
  pub whole : new.whole ≡ old.whole
  pub start : new.start ≡ from
  pub end : new.end ≡ old.end

-- `sides` are parts of the whole of `part`: the first starts at `from`, `width` codes are between
-- them, and the second ends where `part` does
pub record AreSidesFrom (from width : ℕ) (part : Part) (sides : Part × Part) : Type 0 where
  pub whole_before : sides.0.whole ≡ part.whole
  pub whole_after : sides.1.whole ≡ part.whole
  pub start : sides.0.start ≡ from
  pub between : sides.0.end + width ≡ sides.1.start
  pub end : sides.1.end ≡ part.end

-- the sides of a cut of `part` that are `width` codes apart
abbrev pub AreSidesOf : ℕ → Part → Part × Part → Type 0
AreSidesOf width part sides = AreSidesFrom part.start width part sides

-- the cut of `text` at its first code of the class `Is`, `on`: no code of `before` is in the class
pub record IsCutBy (Is : ℕ → Type 0) (text before after : List ℕ) : Type 0 where
  pub on : ℕ
  pub is : Is on
  pub cut : IsCut (λ before after. IsOutside Is before) (on ∷ []) text before after

-- `part` is `taken`, followed by `rest`
pub record IsFollowed (part : Part) (taken : List ℕ) (rest : Part) : Type 0 where
  pub joined : taken ++ part_text rest ≡ part_text part
  pub whole : rest.whole ≡ part.whole
  pub start : rest.start ≡ part.start + length taken
  pub end : rest.end ≡ part.end

-- `sides` are the codes of the class `Is` at the start of `part`, one at least and at most `most`,
-- and the rest
pub record IsTaken (Is : ℕ → Type 0) (most : ℕ) (part : Part) (sides : Part × Part) : Type 0 where
  pub span : IsSpan Is (part_text part) (part_text sides.0) (part_text sides.1)
  pub some : part_text sides.0 ≢ []
  pub short : length (part_text sides.0) ≤ most
  pub place : AreSidesOf 0 part sides
  pub followed : IsFollowed part (part_text sides.0) sides.1

-- at the start of `text` are no codes of the class `Is`, or more than `most`
abbrev pub IsUntakable : (ℕ → Type 0) → ℕ → List ℕ → Type 0
IsUntakable Is most text = (front : List ℕ) × (rest : List ℕ) × IsSpan Is text front rest
    × ((front ≡ []) ⊎ (most < length front))

-- `sides` are the first `count` codes of `part`, which are digits, and the rest
pub record AreDigits (count : ℕ) (part : Part) (sides : Part × Part) : Type 0 where
  pub exact : length (part_text sides.0) ≡ count
  pub digits : All IsDigit (part_text sides.0)
  pub place : AreSidesOf 0 part sides
  pub followed : IsFollowed part (part_text sides.0) sides.1

-- `text` has fewer than `count` codes, or the first `count` of them are not all digits
abbrev pub LacksDigits : ℕ → List ℕ → Type 0
LacksDigits count text = (length text < count) ⊎ ¬ (All IsDigit (take count text))

-- `sides` are what is between the quotes of the quoted text at the start of `part`, and the rest
pub record IsQuotedIn (quote escape : ℕ) (part : Part) (sides : Part × Part) : Type 0 where
  pub quoted : StartsQuoted quote escape (part_text part) (part_text sides.0) (part_text sides.1)
  pub place : AreSidesFrom (part.start + 1) 1 part sides
  pub followed : IsFollowed part (quote ∷ (part_text sides.0 ++ quote ∷ [])) sides.1

-- no quoted text is at the start of `text`
abbrev pub HasNoQuoted : ℕ → ℕ → List ℕ → Type 0
HasNoQuoted quote escape text =
    (inside rest : List ℕ) → ¬ (StartsQuoted quote escape text inside rest)

-- the part at fault is a part of `text`
abbrev pub IsErrorIn : AsciiStr → ParseError → Type 0
IsErrorIn text (At part expected) = part.whole ≡ text
IsErrorIn text Memory = ⊤

-- the output of what was expected
abbrev pub expected_text : Expected → List ℕ
expected_text (Char ch) = codes "expected '" ++ (code_of ch ∷ codes "'")
expected_text (Characters most) =
    codes "expected 1 to " ++ (decimal most ++ codes " characters of a kind")
expected_text (Digits count) = codes "expected a " ++ (decimal count ++ codes "-digit number")
expected_text Quoted = codes "expected a quoted text"
expected_text (Named name) = codes "expected " ++ name.now

-- `new` is what `old` is without leading and trailing codes of the class `Is`, where `old` has it
pub record IsTrimmed (Is : ℕ → Type 0) (old new : Part) : Type 0 where
  pub middle : List ℕ
  pub starts : TrimsStart Is (part_text old) middle
  pub ends : TrimsEnd Is middle (part_text new)
  pub whole : new.whole ≡ old.whole
  pub start : new.start + length middle ≡ old.end

-- an error of a number with its position counted from `start` bytes earlier
abbrev pub fault_from : ℕ → NumberError → NumberError
fault_from start Empty = Empty
fault_from start (NotDigit p) = NotDigit (start + p)
fault_from start (TooLarge p) = TooLarge (start + p)

-- why the text of `part` does not write a number of the range in decimal digits, with the position
-- in its whole
abbrev pub IsPartFault : {N : Type 0} → NumberRange N → Part → NumberError → Type 0
IsPartFault range part error = (own : NumberError)
    × IsFaultIn range 10 (part_text part) own × (error ≡ fault_from part.start own)

-- why no quoted text is at the start of `part`. `NoQuote`: its text does not begin with `quote`.
-- `NotClosed`: it does, but nothing closes the quoted text before the end of `part`, at `p`.
abbrev pub IsPartQuoteFault : ℕ → ℕ → Part → QuoteError → Type 0
IsPartQuoteFault quote escape part NoQuote = IsQuoteFault quote escape (part_text part) NoQuote
IsPartQuoteFault quote escape part (NotClosed p) = (p ≡ part.end)
    × IsQuoteFault quote escape (part_text part) (NotClosed (length (part_text part)))

-- the whole of `part`, and its text with its start
abbrev pub in_whole : Part → AsciiStr × WithStart (List ℕ)
in_whole part = (part.whole, record { start = part.start; item = part_text part })

-- the items of the text of `part` at `spans`, each with the whole of `part` and its start in that
abbrev pub parts_of : Part → List (WithStart (List ℕ)) → List (AsciiStr × WithStart (List ℕ))
parts_of part spans = map
    (λ span. (part.whole, record { start = part.start + span.start; item = span.item })) spans

-- `parts` are the pieces of the text of `part` at `on`, each with the whole of `part` and its start
-- in that
pub record ArePiecesOf (on : ℕ) (part : Part) (parts : List (AsciiStr × WithStart (List ℕ)))
    : Type 0 where
  pub spans : List (WithStart (List ℕ))
  pub pieces : PieceSpans 0 (part_text part) on spans
  pub are : parts ≡ parts_of part spans

-- `parts` are the lines of the text of `part` without their endings, each with the whole of `part`
-- and its start in that
pub record AreLinesOf (part : Part) (parts : List (AsciiStr × WithStart (List ℕ))) : Type 0 where
  pub spans : List (WithStart Line)
  pub lines : LineSpansOf 0 (part_text part) spans
  pub are : parts ≡ parts_of part (map body_in spans)

-- the `{:?}` output of `part`: its start, its end and its text
abbrev pub part_debug : Part → List ℕ
part_debug part = decimal part.start
    ++ (codes ".." ++ (decimal part.end ++ (codes " " ++ debug_text (part_text part))))

-- ---- only private calls cite the following

-- a step that yields the start and the length of the first of the texts and leaves the others, or
-- yields `None` if there are none
abbrev pub YieldsPlace
    : {S : Type 0} → (S → List (WithStart (List ℕ))) → S → Option (ℕ × ℕ) → S → Type 0
YieldsPlace texts old result new = MatchOption result ((texts old ≡ []) × (texts new ≡ []))
    (λ place. (text : List ℕ) × (length text ≡ place.1)
    × (texts old ≡ record { start = place.0; item = text } ∷ texts new))

-- `new` is a part of the same whole as `old`, starts where it does and ends at `to`
pub record IsFrontTo (to : ℕ) (old new : Part) : Type 0 where
  pub whole : new.whole ≡ old.whole
  pub start : new.start ≡ old.start
  pub end : new.end ≡ to
