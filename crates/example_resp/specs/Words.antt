-- The words of a line, as Redis splits it: a word is characters as they are, and then maybe
-- characters in quotes.
use Rattle.std.specs.Prelude.{if◌then◌else◌, ◌≡◌, ◌≢◌, ◌⊎◌, ◌+◌, ◌*◌, ◌<◌, ℕ, List, [], ◌∷◌, ◌++◌, ⊤}
use Rattle.std.specs.Prelude.{IfSome, Some, nat_eq, slice_get}
use Rattle.ascii.specs.View.{text_of}
use Rattle.ascii.specs.Trim.{TrimsStart}
use Rattle.ascii.specs.Class.{IsWhitespace, digit_value}
use Rattle.example_resp.specs.declared.commands.Rejection.{Rejection}
use Rattle.example_resp.specs.declared.commands.Rejection.TheVariants.{BadQuotes, NoMemory}
use Rattle.example_resp.specs.declared.words.Piece.{Piece}
use Rattle.example_resp.specs.declared.words.Piece.TheVariants.{Code, End}
use Rattle.example_resp.specs.declared.words.Quotes.{Quotes}
use Rattle.example_resp.specs.declared.words.Quotes.TheVariants.{Bare, Double, Single}

-- ---- characters

-- the code is a space, a tab, a CR or an LF
abbrev pub IsGap : ℕ → Type 0
IsGap code = (code ≡ 32) ⊎ (code ≡ 9) ⊎ (code ≡ 13) ⊎ (code ≡ 10)

-- the code that a character after a backslash writes: `n`, `r`, `t`, `b` and `a` a control code, and
-- any other itself
abbrev pub escaped_code : ℕ → ℕ
escaped_code mark = if nat_eq mark 110 then 10 else (if nat_eq mark 114 then 13 else
    (if nat_eq mark 116 then 9 else (if nat_eq mark 98 then 8 else
    (if nat_eq mark 97 then 7 else mark))))

-- `text` begins with `x` and two hexadecimal digits, which write `code`, and `others` come after
-- them
pub record IsHexPair (text : List ℕ) (code : ℕ) (others : List ℕ) : Type 0 where
  pub high : ℕ
  pub low : ℕ
  pub joined : text ≡ 120 ∷ high ∷ low ∷ others
  pub first : ℕ
  pub second : ℕ
  pub reads : (digit_value high ≡ Some first) × (digit_value low ≡ Some second)
  pub digits : (first < 16) × (second < 16)
  pub value : code ≡ 16 * first + second

-- `text` begins with `x` and two hexadecimal digits
abbrev pub HasHexPair : List ℕ → Type 0
HasHexPair text = (code : ℕ) × (others : List ℕ) × IsHexPair text code others

-- `text` begins with the characters that write `code` between these quotes, and `others` come after
-- them. `Bare`: the code itself, which is not a gap or a quote. `Single`: a quote after a backslash
-- writes a quote, and any other code itself. `Double`: two hexadecimal digits after `\x` write a
-- code, as does a character after a backslash, and any other code itself
abbrev pub IsPiece : Quotes → List ℕ → ℕ → List ℕ → Type 0
IsPiece Bare text code others =
    (text ≡ code ∷ others) × ¬ (IsGap code) × (code ≢ 34) × (code ≢ 39)
IsPiece Single text code others = ((text ≡ 92 ∷ 39 ∷ others) × (code ≡ 39))
    ⊎ ((text ≡ code ∷ others) × (code ≢ 39)
    × (code ≡ 92 → slice_get others 0 ≢ Some 39))
IsPiece Double text code others =
    ((after : List ℕ) × (text ≡ 92 ∷ after) × IsHexPair after code others)
    ⊎ ((mark : ℕ) × (text ≡ 92 ∷ mark ∷ others) × (code ≡ escaped_code mark)
    × ¬ (HasHexPair (mark ∷ others)))
    ⊎ ((text ≡ code ∷ others) × (code ≢ 34) × (code ≡ 92 → others ≡ []))

-- `text` begins with the characters that write the codes of `value`, in order, and `rest` comes
-- after them
abbrev pub HasPieces : Quotes → List ℕ → List ℕ → List ℕ → Type 0
HasPieces quotes text [] rest = rest ≡ text
HasPieces quotes text (code ∷ value) rest =
    (others : List ℕ) × IsPiece quotes text code others × HasPieces quotes others value rest

-- ---- words

-- the code begins and ends what is quoted
abbrev pub IsMark : Quotes → ℕ → Type 0
IsMark Bare mark = ⊥
IsMark Double mark = mark ≡ 34
IsMark Single mark = mark ≡ 39

-- `text` begins with `front`, which is not quoted, and then with what is quoted in `quotes`, of
-- which `inside` is what comes after the quote `mark`
pub record OpensQuotes (quotes : Quotes) (text front : List ℕ) (mark : ℕ) (inside : List ℕ) : Type 0
  where
    pub is_mark : IsMark quotes mark
    pub before : HasPieces Bare text front (mark ∷ inside)

-- a word in quotes: its codes are `front` and then `value`
pub record IsQuoted (text word after : List ℕ) : Type 0 where
  pub quotes : Quotes
  pub front : List ℕ
  pub mark : ℕ
  pub inside : List ℕ
  pub value : List ℕ
  pub opens : OpensQuotes quotes text front mark inside
  pub closes : HasPieces quotes inside value (mark ∷ after)
  pub joined : word ≡ front ++ value
  pub ended : IfSome (slice_get after 0) IsWhitespace

-- `text` begins with the word `word`, and `after` comes after it: a gap or nothing after a word
-- without quotes, and white space or nothing after a quote
abbrev pub IsWord : List ℕ → List ℕ → List ℕ → Type 0
IsWord text word after =
    (HasPieces Bare text word after × IfSome (slice_get after 0) IsGap) ⊎ IsQuoted text word after

-- quotes that are not closed, or are closed before something other than white space
pub record IsUnbalanced (text : List ℕ) : Type 0 where
  pub quotes : Quotes
  pub front : List ℕ
  pub mark : ℕ
  pub inside : List ℕ
  pub value : List ℕ
  pub rest : List ℕ
  pub opens : OpensQuotes quotes text front mark inside
  pub holds : HasPieces quotes inside value rest
  pub bad : (rest ≡ []) ⊎ ((after : List ℕ) × (rest ≡ mark ∷ after)
      × ¬ (IfSome (slice_get after 0) IsWhitespace))

-- why `text` does not begin with a word that can be kept
abbrev pub IsWordFault : List ℕ → Rejection → Type 0
IsWordFault text BadQuotes = IsUnbalanced text
IsWordFault text NoMemory = ⊤
IsWordFault text fault = ⊥

-- ---- lines

-- `text` begins with a word, and `rest` comes after it and the white space after it
abbrev pub TakesWord : List ℕ → List ℕ → List ℕ → Type 0
TakesWord text word rest = (after : List ℕ) × IsWord text word after
    × TrimsStart IsWhitespace after rest × (text ≢ [])

-- `text` begins with these words, one after another, and `rest` comes after them
abbrev pub TakesWords : List ℕ → List (List ℕ) → List ℕ → Type 0
TakesWords text [] rest = rest ≡ text
TakesWords text (word ∷ words) rest =
    (others : List ℕ) × TakesWord text word others × TakesWords others words rest

-- these are the words of the line, which may begin with white space
abbrev pub HasWords : List ℕ → List (List ℕ) → Type 0
HasWords line words =
    (text : List ℕ) × TrimsStart IsWhitespace line text × TakesWords text words []

-- why the line does not have words that can be kept: the fault of one, after some words
abbrev pub IsLineFault : List ℕ → Rejection → Type 0
IsLineFault line fault = (text : List ℕ) × (words : List (List ℕ)) × (rest : List ℕ)
    × TrimsStart IsWhitespace line text × TakesWords text words rest × IsWordFault rest fault

-- ---- cited by private functions only

-- the text begins with a quote
abbrev pub HasMark : List ℕ → Type 0
HasMark text = (slice_get text 0 ≡ Some 34) ⊎ (slice_get text 0 ≡ Some 39)

-- the text begins with the quote of these quotes, and then `inside`
abbrev pub Opens : Quotes → List ℕ → List ℕ → Type 0
Opens quotes text inside = (mark : ℕ) × IsMark quotes mark × (text ≡ mark ∷ inside)

-- what begins the text is not between these quotes: a gap or a quote, or the quote that ends them
abbrev pub EndsPieces : Quotes → List ℕ → Type 0
EndsPieces Bare text = IfSome (slice_get text 0) (λ code. IsGap code ⊎ (code ≡ 34) ⊎ (code ≡ 39))
EndsPieces Double text = IfSome (slice_get text 0) (λ code. code ≡ 34)
EndsPieces Single text = IfSome (slice_get text 0) (λ code. code ≡ 39)

-- what the text begins with between these quotes
abbrev pub FindsPiece : Quotes → List ℕ → Piece → Type 0
FindsPiece quotes text (Code code others) = IsPiece quotes text code (text_of others)
FindsPiece quotes text End = EndsPieces quotes text

-- what is between these quotes was appended to `old`, and `rest` comes after it
abbrev pub TakesPieces : Quotes → List ℕ → List ℕ → List ℕ → List ℕ → Type 0
TakesPieces quotes text old new rest = (value : List ℕ) × (new ≡ old ++ value)
    × HasPieces quotes text value rest × EndsPieces quotes rest
