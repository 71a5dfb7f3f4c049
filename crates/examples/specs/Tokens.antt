-- The tokens of a small language.
use Rattle.std.specs.Prelude.{ℕ, ◌≡◌, ◌≢◌, ◌||◌, ◌+◌, ◌<◌, ◌⊎◌, ◌++◌, ◌∷◌, [], List, ⊤, length}
use Rattle.std.specs.Int.{IsInRange}
use Rattle.std.specs.List.{All, flat_map}
use Rattle.std.specs.Set.{is_member}
use Rattle.std.specs.Str.{bytes_eq}
use Rattle.ascii.specs.Class.{IsAlphanumeric, IsDigit, IsPunctuation, IsWhitespace}
use Rattle.ascii.specs.declared.ascii_str.AsciiStr.{AsciiStr}
use Rattle.ascii_formats.specs.Parts.{part_text}
use Rattle.ascii_formats.specs.Quotes.{Quotable, StartsQuoted}
use Rattle.ascii_formats.specs.declared.parts.Expected.TheVariants as expected
use Rattle.ascii_formats.specs.declared.parts.ParseError.{ParseError}
use Rattle.ascii_formats.specs.declared.parts.ParseError.TheVariants.{At, Memory}
use Rattle.ascii_formats.specs.declared.parts.Part.{Part}
use Rattle.examples.specs.declared.tokens.Kind.{Kind}
use Rattle.examples.specs.declared.tokens.Kind.TheVariants.{Comment, Mark, Number, Quoted}
use Rattle.examples.specs.declared.tokens.Kind.TheVariants.{Space, Word}
use Rattle.examples.specs.declared.tokens.Token.{Token}

-- a code that a word may contain: a letter, a digit or `_`
abbrev pub IsWordCode : ℕ → Type 0
IsWordCode code = IsAlphanumeric code ⊎ (code ≡ 95)

-- a code that a line may contain: not LF
abbrev pub IsLineCode : ℕ → Type 0
IsLineCode code = IsInRange 0 9 code ⊎ IsInRange 11 127 code

-- `body` is what a token of the kind has
abbrev pub IsOf : Kind → List ℕ → Type 0
IsOf Space body = (body ≢ []) × All IsWhitespace body
IsOf Comment body = All IsLineCode body
IsOf Number body = (body ≢ []) × All IsDigit body
IsOf Word body = (body ≢ []) × All IsWordCode body
IsOf Quoted body = Quotable 34 92 body
IsOf Mark body = (length body ≡ 1) × All IsPunctuation body

-- what a token of the kind that has `body` is written as
abbrev pub written : Kind → List ℕ → List ℕ
written Comment body = 35 ∷ body
written Quoted body = 34 ∷ (body ++ 34 ∷ [])
written kind body = body

-- what a token is written as
abbrev pub token_text : Token → List ℕ
token_text token = written token.kind (part_text token.part)

-- how many codes of a token of the kind are before its part: `#` or a quote
abbrev pub lead : Kind → ℕ
lead Comment = 1
lead Quoted = 1
lead kind = 0

-- how many are after it
abbrev pub tail : Kind → ℕ
tail Quoted = 1
tail kind = 0

-- the tokens come one after the other, from the position `at` to `end`
abbrev pub AreLaid : ℕ → List Token → ℕ → Type 0
AreLaid at [] end = at ≡ end
AreLaid at (token ∷ tokens) end = (token.part.start ≡ at + lead token.kind)
    × AreLaid (token.part.end + tail token.kind) tokens end

-- a token is a part of `text`, and is of its kind
pub record IsTokenOf (text : AsciiStr) (token : Token) : Type 0 where
  pub whole : token.part.whole ≡ text
  pub body : IsOf token.kind (part_text token.part)

-- why no token is at the start of a part of `text`. `Quoted`: no quoted text is.
abbrev pub IsErrorOf : AsciiStr → ParseError → Type 0
IsErrorOf text (At part expected.Quoted) = (part.whole ≡ text)
    × ((inside : List ℕ) → (rest : List ℕ) → ¬ (StartsQuoted 34 92 (part_text part) inside rest))
IsErrorOf text (At part other) = part.whole ≡ text
IsErrorOf text Memory = ⊤

-- the text of a token that is a word
abbrev pub word_of : Kind → List ℕ → List (List ℕ)
word_of Word body = body ∷ []
word_of kind body = []

-- the words among `tokens`, in order
abbrev pub words_of : List Token → List (List ℕ)
words_of tokens = flat_map (λ token. word_of token.kind (part_text token.part)) tokens

-- `words` has the words among `tokens`, and nothing else
abbrev pub HasWordsOf : List Token → List (List ℕ) → Type 0
HasWordsOf tokens words =
    (text : List ℕ) → is_member bytes_eq words text ≡ is_member bytes_eq (words_of tokens) text

-- ---- cited by private functions only

-- `new` has what `old` has and the words among `tokens`, and nothing else
abbrev pub AddsWords : List (List ℕ) → List Token → List (List ℕ) → Type 0
AddsWords old tokens new = (text : List ℕ) → is_member bytes_eq new text
    ≡ (is_member bytes_eq (words_of tokens) text || is_member bytes_eq old text)

-- `taken` is a token at the start of `part`, and what comes after it
pub record IsTaken (part : Part) (taken : Token × Part) : Type 0 where
  pub token : IsTokenOf part.whole taken.0
  pub joined : token_text taken.0 ++ part_text taken.1 ≡ part_text part
  pub whole : taken.1.whole ≡ part.whole
  pub start : taken.0.part.start ≡ part.start + lead taken.0.kind
  pub after : taken.1.start ≡ taken.0.part.end + tail taken.0.kind
  pub shorter : part.start < taken.1.start
  pub end : taken.1.end ≡ part.end
