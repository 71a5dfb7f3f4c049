-- Media types: `type/subtype`, and parameters `; name=value`.
use Rattle.std.specs.Prelude.{◌≡◌, ◌≢◌, ◌⊎◌, ℕ, List, [], ◌∷◌, ◌++◌, IfSome, MatchOption}
use Rattle.std.specs.Prelude.{MatchResult, Option, codes, slice_get, ⊤}
use Rattle.std.specs.List.{All, filter_map, flat_map}
use Rattle.std.specs.declared.result.Result.{Result}
use Rattle.ascii.specs.Class.{IsBlank, IsTokenCode}
use Rattle.ascii.specs.Code.{code_of}
use Rattle.ascii.specs.First.{IsFirstAt}
use Rattle.ascii.specs.Search.{StartsWith}
use Rattle.ascii.specs.View.{text_of}
use Rattle.ascii.specs.declared.ascii_str.AsciiStr.{AsciiStr}
use Rattle.ascii_formats.specs.Parts.{part_text}
use Rattle.ascii_formats.specs.Quotes.{Quotable, StartsQuoted}
use Rattle.ascii_formats.specs.declared.parts.Expected.TheVariants.{Char, Characters, Digits}
use Rattle.ascii_formats.specs.declared.parts.Expected.TheVariants.{Named, Quoted}
use Rattle.ascii_formats.specs.declared.parts.ParseError.{ParseError}
use Rattle.ascii_formats.specs.declared.parts.ParseError.TheVariants.{At, Memory}
use Rattle.ascii_formats.specs.declared.parts.Part.{Part}
use Rattle.cookbook.specs.Cases.{EqIgnoringCase}
use Rattle.cookbook.specs.declared.media_type.MediaType.{MediaType}
use Rattle.cookbook.specs.declared.media_type.Parameter.{Parameter}

-- `text` is a token: it is not empty, and has only the codes of a token
abbrev pub IsToken : List ℕ → Type 0
IsToken text = (text ≢ []) × All IsTokenCode text

-- `value` is written as it is, if it is a token, or between quotes, where `\` is an escape
abbrev pub IsValue : List ℕ → List ℕ → Type 0
IsValue written value = (IsToken written × (written ≡ value))
    ⊎ (Quotable 34 92 value × (34 ∷ (value ++ 34 ∷ []) ≡ written))

-- the parameter is written as its name, a token, `=` and its value
abbrev pub IsParameter : List ℕ → Parameter → Type 0
IsParameter written parameter = IsToken (text_of parameter.name) × ((value : List ℕ)
    × IsValue value (text_of parameter.value) × (text_of parameter.name ++ 61 ∷ value ≡ written))

-- `written` is `;` with spaces and tabs around it, and after it the parameter, or nothing
pub record IsSection (written : List ℕ) (found : Option Parameter) : Type 0 where
  pub before : List ℕ
  pub after : List ℕ
  pub parameter : List ℕ
  pub joined : before ++ 59 ∷ (after ++ parameter) ≡ written
  pub blank_before : All IsBlank before
  pub blank_after : All IsBlank after
  pub says : MatchOption found (parameter ≡ []) (IsParameter parameter)

-- `text` is the type, `/`, the subtype and sections, which say the parameters in order; the type
-- and the subtype are tokens
pub record IsMediaType (text : List ℕ) (media : MediaType) : Type 0 where
  pub sections : List (List ℕ × Option Parameter)
  pub joined : text_of media.kind
      ++ 47 ∷ (text_of media.subtype ++ flat_map (λ section. section.0) sections) ≡ text
  pub kind : IsToken (text_of media.kind)
  pub subtype : IsToken (text_of media.subtype)
  pub each : All (λ section. IsSection section.0 section.1) sections
  pub parameters : media.parameters.items ≡ filter_map (λ section. section.1) sections

-- what is missing at the start of a part of `text`: a character; a quote that closes the quoted
-- text there; or a token
abbrev pub IsMissing : AsciiStr → ParseError → Type 0
IsMissing text (At part (Char ch)) =
    (part.whole ≡ text) × ¬ (StartsWith (code_of ch ∷ []) (part_text part))
IsMissing text (At part (Characters most)) = ⊥
IsMissing text (At part (Digits count)) = ⊥
IsMissing text (At part Quoted) = (part.whole ≡ text)
    × ((rest : List ℕ) × (part_text part ≡ 34 ∷ rest))
    × ((inside rest : List ℕ) → ¬ (StartsQuoted 34 92 (part_text part) inside rest))
IsMissing text (At part (Named name)) = (part.whole ≡ text) × (name.now ≡ codes "a token")
    × IfSome (slice_get (part_text part) 0) (λ first. ¬ (IsTokenCode first))
IsMissing text Memory = ⊤

-- the name of `parameter` is `name`, ignoring ASCII case
abbrev pub HasName : List ℕ → Parameter → Type 0
HasName name parameter = EqIgnoringCase (text_of parameter.name) name

-- `None` if no parameter has the name `name`; otherwise the first that has
abbrev pub FindsParameter : List Parameter → List ℕ → Option Parameter → Type 0
FindsParameter parameters name result =
    MatchOption result (All (λ parameter. ¬ (HasName name parameter)) parameters)
    (λ found. (i : ℕ) × IsFirstAt (λ parameter. ¬ (HasName name parameter))
    (λ parameter. HasName name parameter × (parameter ≡ found)) parameters i)

-- ---- cited by private functions only

-- `Ok`: `part` is a text of which `Is` is true, which is written for what was taken, and the rest.
-- `Err`: what is missing
abbrev pub Takes : {T : Type 0} → (List ℕ → T → Type 0) → Part → Result (T × Part) ParseError
    → Type 0
Takes Is part result = MatchResult result
    (λ taken. (written : List ℕ) × Is written taken.0
    × (written ++ part_text taken.1 ≡ part_text part) × (taken.1.whole ≡ part.whole))
    (IsMissing part.whole)
