-- Quoted texts: `quote`, the text inside, and `quote`. A code after an `escape` inside does not end
-- the text. If `escape` is `quote` itself, each quote inside is doubled, as in CSV.
use Rattle.std.specs.Prelude.{◌≡◌, ◌≢◌, ℕ, ◌+◌, ◌⊎◌, List, [], ◌∷◌, ◌++◌, IfSome, Some, codes}
use Rattle.std.specs.Prelude.{if◌then◌else◌, ◌==◌, ◌||◌, decimal, length, slice_get}
use Rattle.std.specs.List.{All, concat, flat_map}
use Rattle.ascii_formats.specs.declared.quotes.QuoteError.{QuoteError}
use Rattle.ascii_formats.specs.declared.quotes.QuoteError.TheVariants.{NoQuote, NotClosed}

-- `piece` is one code inside, as it is written: neither `quote` nor `escape`; or `escape` with a
-- code after it, which is `quote` if `escape` is `quote`
abbrev pub IsQuotedCode : ℕ → ℕ → List ℕ → Type 0
IsQuotedCode quote escape piece =
    ((n : ℕ) × (piece ≡ n ∷ []) × (n ≢ quote) × (n ≢ escape))
    ⊎ ((n : ℕ) × (piece ≡ escape ∷ n ∷ []) × (escape ≡ quote → n ≡ quote))

-- `inside` is a list of such pieces
abbrev pub Quotable : ℕ → ℕ → List ℕ → Type 0
Quotable quote escape inside =
    (pieces : List (List ℕ)) × All (IsQuotedCode quote escape) pieces × (concat pieces ≡ inside)

-- `text` is `quote`, `inside`, `quote` and `rest`; if `escape` is `quote`, `rest` does not begin
-- with another one
pub record StartsQuoted (quote escape : ℕ) (text inside rest : List ℕ) : Type 0 where
  pub joined : quote ∷ (inside ++ quote ∷ rest) ≡ text
  pub quotable : Quotable quote escape inside
  pub ends : escape ≡ quote → IfSome (slice_get rest 0) (λ next. next ≢ quote)

-- why no quoted text is at the start of `text`. `NoQuote`: `text` does not begin with `quote`.
-- `NotClosed`: it does, but nothing closes the quoted text before the end of `text`, at `p`.
abbrev pub IsQuoteFault : ℕ → ℕ → List ℕ → QuoteError → Type 0
IsQuoteFault quote escape text NoQuote = (rest : List ℕ) → text ≢ quote ∷ rest
IsQuoteFault quote escape text (NotClosed p) = (p ≡ length text)
    × ((rest : List ℕ) × (text ≡ quote ∷ rest))
    × ((inside rest : List ℕ) → ¬ (StartsQuoted quote escape text inside rest))

-- `code` as it is written between quotes: after `escape` if it is `quote` or `escape`
abbrev pub quoted_code : ℕ → ℕ → ℕ → List ℕ
quoted_code quote escape code =
    if code == quote || code == escape then escape ∷ code ∷ [] else code ∷ []

-- `text` in quotes, with `escape` before each `quote` and each `escape` in it
abbrev pub quoted_text : ℕ → ℕ → List ℕ → List ℕ
quoted_text quote escape text = quote ∷ (flat_map (quoted_code quote escape) text ++ quote ∷ [])

-- what a text between quotes represents: an `escape` and the code after it represent that code; any
-- other code represents itself, and so does an `escape` at the end
abbrev pub unquoted : ℕ → List ℕ → List ℕ
unquoted escape [] = []
unquoted escape (code ∷ []) = code ∷ []
unquoted escape (code ∷ next ∷ rest) =
    if code == escape then next ∷ unquoted escape rest else code ∷ unquoted escape (next ∷ rest)

-- the output of an error
abbrev pub quote_error_text : QuoteError → List ℕ
quote_error_text NoQuote = codes "no quote at the start"
quote_error_text (NotClosed p) =
    codes "the text ends at index " ++ decimal p ++ codes " within quotes"

-- ---- cited by private functions only

-- a quoted text whose first quote comes before `text` ends before `rest`
abbrev pub ClosesBefore : ℕ → ℕ → List ℕ → List ℕ → Type 0
ClosesBefore quote escape text rest =
    (inside : List ℕ) × StartsQuoted quote escape (quote ∷ text) inside rest

-- the code at `i` is an escape of the code after it
abbrev pub IsEscapeAt : ℕ → ℕ → List ℕ → ℕ → Type 0
IsEscapeAt quote escape text i = (slice_get text i ≡ Some escape)
    × (escape ≡ quote → slice_get text (i + 1) ≡ Some quote)
