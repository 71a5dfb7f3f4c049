-- Messages of a log in the form of RFC 5424.
use Rattle.std.specs.Prelude.{ℕ, ◌≡◌, ◌≢◌, ◌≤◌, ◌⊎◌, ◌^◌, ◌-◌, ◌++◌, ◌∷◌, [], List}
use Rattle.std.specs.Prelude.{MatchResult, None, Ok, Option, Some, codes, length}
use Rattle.std.specs.declared.result.Result.{Result}
use Rattle.std.specs.Int.{IsInRange}
use Rattle.std.specs.List.{All, flat_map}
use Rattle.ascii.specs.Class.{IsGraphic}
use Rattle.ascii.specs.Search.{StartsWith}
use Rattle.ascii_formats.specs.Numbers.{WritesNumber}
use Rattle.ascii_formats.specs.Parts.{IsErrorIn, IsFollowed, part_text}
use Rattle.ascii_formats.specs.Quotes.{Quotable}
use Rattle.ascii_formats.specs.declared.parts.ParseError.{ParseError}
use Rattle.ascii_formats.specs.declared.parts.Part.{Part}
use Rattle.examples.specs.declared.syslog.Element.{Element}
use Rattle.examples.specs.declared.syslog.Message.{Message}
use Rattle.examples.specs.declared.syslog.Param.{Param}
use Rattle.jiff.specs.Words.{parse_timestamp}
use Rattle.jiff.specs.declared.timestamp.Timestamp.{Timestamp}

-- a code that a name may contain: a visible one other than `"`, `=` and `]`
abbrev pub IsNameCode : ℕ → Type 0
IsNameCode code = IsInRange 33 33 code ⊎ IsInRange 35 60 code ⊎ IsInRange 62 92 code
    ⊎ IsInRange 94 126 code

-- the first of `number` is up to three digits that write the second, a number of at most `most`
pub record IsNumber (most : ℕ) (number : Part × ℕ) : Type 0 where
  pub digits : WritesNumber (2 ^ 16 - 1) (part_text number.0) number.1
  pub short : length (part_text number.0) ≤ 3
  pub low : number.1 ≤ most

-- `part` is up to `most` codes of the class `Is`, and one at least
pub record IsField (Is : ℕ → Type 0) (most : ℕ) (part : Part) : Type 0 where
  pub some : part_text part ≢ []
  pub short : length (part_text part) ≤ most
  pub within : All Is (part_text part)

-- the instant that jiff reads in `text`, in nanoseconds from 1970 on; none if `text` is `-`
abbrev pub IsInstant : List ℕ → Option Timestamp → Type 0
IsInstant text None = text ≡ codes "-"
IsInstant text (Some instant) = parse_timestamp text ≡ Ok instant.nanosecond

-- a parameter has a name and a quotable value
pub record IsParam (param : Param) : Type 0 where
  pub name : IsField IsNameCode 32 param.name
  pub value : Quotable 34 92 (part_text param.value)

-- an element has a name and parameters
pub record IsElement (element : Element) : Type 0 where
  pub id : IsField IsNameCode 32 element.id
  pub params : All IsParam element.params.items

-- each of the elements has a name and parameters
abbrev pub AreElements : List Element → Type 0
AreElements elements = All IsElement elements

-- what a parameter is written as
abbrev pub param_text : Param → List ℕ
param_text param = 32 ∷ (part_text param.name ++ 61 ∷ (34 ∷ (part_text param.value ++ 34 ∷ [])))

-- what an element is written as
abbrev pub element_text : Element → List ℕ
element_text element = 91 ∷ (part_text element.id
    ++ (flat_map param_text element.params.items ++ 93 ∷ []))

-- what structured data is written as
abbrev pub data_text : List Element → List ℕ
data_text [] = codes "-"
data_text (element ∷ elements) = flat_map element_text (element ∷ elements)

-- `line` is the parts of `message` in order, each of its form
pub record IsMessage (line : List ℕ) (message : Message) : Type 0 where
  pub joined : 60 ∷ (part_text message.priority.0 ++ 62 ∷ (part_text message.version.0
      ++ 32 ∷ (part_text message.time ++ 32 ∷ (part_text message.host
      ++ 32 ∷ (part_text message.app ++ 32 ∷ (part_text message.process
      ++ 32 ∷ (part_text message.id ++ 32 ∷ (data_text message.elements.items
      ++ part_text message.text)))))))) ≡ line
  pub priority : IsNumber 191 message.priority
  pub version : IsNumber 999 message.version
  pub time : IsField IsGraphic 32 message.time
  pub instant : IsInstant (part_text message.time) message.instant
  pub host : IsField IsGraphic 255 message.host
  pub app : IsField IsGraphic 48 message.app
  pub process : IsField IsGraphic 128 message.process
  pub id : IsField IsGraphic 32 message.id
  pub elements : AreElements message.elements.items
  pub text : (part_text message.text ≡ []) ⊎ StartsWith (codes " ") (part_text message.text)

-- ---- cited by private functions only

-- `Ok`: something of which `Is` is true, written at the start of `part`, and the rest of `part`.
-- `Err`: the part at fault is a part of the same text
abbrev pub Takes : {T : Type 0} → (T → Type 0) → (T → List ℕ) → Part → Result (T × Part) ParseError
    → Type 0
Takes Is written part result = MatchResult result
    (λ taken. Is taken.0 × IsFollowed part (written taken.0) taken.1) (IsErrorIn part.whole)
