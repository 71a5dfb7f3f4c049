-- The header lines of a message: a name, a colon and a value.
use Rattle.std.specs.Prelude.{◌≡◌, ◌≢◌, ℕ, List, [], ◌∷◌, ◌++◌, Option, MatchOption}
use Rattle.std.specs.Prelude.{MatchResult, ⊤}
use Rattle.std.specs.List.{All, AllZip, Contains}
use Rattle.std.specs.declared.alloc.Global.{Global}
use Rattle.std.specs.declared.result.Result.{Result}
use Rattle.std.specs.declared.vec.Vec.{Vec}
use Rattle.ascii.specs.Class.{IsBlank, IsTokenCode}
use Rattle.ascii.specs.First.{IsFirstAt}
use Rattle.ascii.specs.Lines.{Line}
use Rattle.ascii.specs.Spans.{LineSpansOf, WithStart}
use Rattle.ascii.specs.Trim.{Trims}
use Rattle.ascii.specs.View.{text_of}
use Rattle.cookbook.specs.Cases.{EqIgnoringCase}
use Rattle.ascii.specs.Search.{IsCutAt}
use Rattle.cookbook.specs.declared.headers.HeaderBlockError.{HeaderBlockError}
use Rattle.cookbook.specs.declared.headers.HeaderBlockError.TheVariants.{InLine, Memory}
use Rattle.cookbook.specs.declared.headers.Header.{Header}
use Rattle.cookbook.specs.declared.headers.HeaderError.{HeaderError}
use Rattle.cookbook.specs.declared.headers.HeaderError.TheVariants.{NoColon, NoName, NotToken}

-- `line` is `name`, a colon and a text that without leading and trailing spaces and tabs is
-- `value`; `name` is not empty, and its codes are those that a header name may contain
pub record IsHeader (line name value : List ℕ) : Type 0 where
  pub some : name ≢ []
  pub token : All IsTokenCode name
  pub after : List ℕ
  pub joined : name ++ 58 ∷ after ≡ line
  pub trimmed : Trims IsBlank after value

-- why `line` is not a header. `NoColon`: it contains no colon. `NoName`: it starts with a colon.
-- `NotToken`: the code at the position that the error holds is the first one that a header name
-- may not contain, of those before the first colon
abbrev pub IsHeaderError : List ℕ → HeaderError → Type 0
IsHeaderError line NoColon = ¬ (Contains line 58)
IsHeaderError line NoName = (after : List ℕ) × (58 ∷ after ≡ line)
IsHeaderError line (NotToken place) = (name : List ℕ) × (after : List ℕ)
    × IsCutAt 58 line name after
    × IsFirstAt IsTokenCode (λ code. ¬ (IsTokenCode code)) name place

-- `Ok`: the header of `line`. `Err`: why `line` is not a header
abbrev pub ReadsHeader : List ℕ → Result Header HeaderError → Type 0
ReadsHeader line result =
    MatchResult result (λ header. IsHeader line (text_of header.name) (text_of header.value))
    (IsHeaderError line)

-- ---- a block of lines

-- `header` is the header of the body of `line`
abbrev pub IsHeaderOf : WithStart Line → Header → Type 0
IsHeaderOf line header = IsHeader line.item.body (text_of header.name) (text_of header.value)

-- the body of `line` is a header
abbrev pub HasHeader : WithStart Line → Type 0
HasHeader line = (header : Header) × IsHeaderOf line header

-- why `lines` are not all headers. `InLine`: the line at index `number` is the first that is not a
-- header; it begins at `start`, and `error` says why it is none. `Memory` says nothing of `lines`
abbrev pub IsBlockError : List (WithStart Line) → HeaderBlockError → Type 0
IsBlockError lines (InLine number start error) =
    IsFirstAt HasHeader (λ line. (line.start ≡ start) × IsHeaderError line.item.body error)
    lines number
IsBlockError lines Memory = ⊤

-- `Ok`: the headers of the lines of `block`, in order. `Err`: why they are not all headers, or
-- `Memory`
abbrev pub ReadsHeaders : List ℕ → Result (Vec Header Global) HeaderBlockError → Type 0
ReadsHeaders block result = (lines : List (WithStart Line)) × LineSpansOf 0 block lines
    × MatchResult result (λ headers. AllZip IsHeaderOf lines headers.items) (IsBlockError lines)

-- ---- headers by name

-- the name of `header` is `name`, ignoring ASCII case
abbrev pub IsNamed : List ℕ → Header → Type 0
IsNamed name header = EqIgnoringCase (text_of header.name) name

-- `None` if no header has the name `name`; otherwise the first that has
abbrev pub FindsHeader : List Header → List ℕ → Option Header → Type 0
FindsHeader headers name result =
    MatchOption result (All (λ header. ¬ (IsNamed name header)) headers)
    (λ found. (i : ℕ) × IsFirstAt (λ header. ¬ (IsNamed name header))
    (λ header. IsNamed name header × (header ≡ found)) headers i)
