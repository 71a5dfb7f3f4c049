-- The head of an HTTP/1.1 request.
use Rattle.std.specs.Prelude.{◌≡◌, ◌≢◌, List, [], ◌∷◌, ◌++◌, ◌-◌, ◌^◌, All, IsSome, IsSomeAnd}
use Rattle.std.specs.Prelude.{◌⊎◌, ℕ, ⊤, codes, length, map, slice_get, take}
use Rattle.std.specs.List.{AllPairs, AllZip, join_by}
use Rattle.std.specs.List.Sorted.{IsStrictlySortedBy}
use Rattle.std.specs.Map.{keys_of}
use Rattle.ascii.specs.ByClass.{IsOutside}
use Rattle.ascii.specs.Case.{lower_image}
use Rattle.ascii.specs.Class.{IsGraphic, IsTokenCode}
use Rattle.ascii.specs.Search.{IgnoringCase, IsPrefix}
use Rattle.ascii_formats.specs.Numbers.{WritesNumber}
use Rattle.ascii_formats.specs.Parts.{IsCutBy}
use Rattle.ascii.specs.View.{text_of}
use Rattle.ascii.specs.declared.ascii_str.AsciiStr.{AsciiStr}
use Rattle.ascii_keys.specs.Maps.{Entries, folded_order, folded_value_at}
use Rattle.ascii_lines.specs.declared.owned_lines.OwnedLine.{OwnedLine}
use Rattle.cookbook.specs.HeaderMap.{HasLastValues, values_in}
use Rattle.cookbook.specs.Headers.{IsHeader, IsHeaderError, IsNamed}
use Rattle.cookbook.specs.declared.headers.Header.{Header}
use Rattle.examples.specs.declared.head.HeadersError.{HeadersError}
use Rattle.examples.specs.declared.head.HeadersError.TheVariants.{Memory, NotHeader, Twice}
use Rattle.examples.specs.declared.head.RequestLine.{RequestLine}

-- `line` is a method, a target and a version, `HTTP/1.` and one digit, with single spaces between
-- them
pub record IsRequestLine (line : List ℕ) (request : RequestLine) : Type 0 where
  pub digits : List ℕ
  pub joined : line ≡ text_of request.method
      ++ 32 ∷ (text_of request.target ++ 32 ∷ (codes "HTTP/1." ++ digits))
  pub version : WritesNumber (2 ^ 8 - 1) digits request.minor
  pub one_digit : length digits ≡ 1
  pub method_some : text_of request.method ≢ []
  pub method_token : All IsTokenCode (text_of request.method)
  pub target_some : text_of request.target ≢ []
  pub target_graphic : All IsGraphic (text_of request.target)

-- the code ends the authority of a URL: it is `/`, `?` or `#`
abbrev pub EndsAuthority : ℕ → Type 0
EndsAuthority code = (code ≡ 47) ⊎ (code ≡ 63) ⊎ (code ≡ 35)

-- `authority` is what `text` has before its first code that ends one, or `text` if it has none
abbrev pub BeginsWithAuthority : List ℕ → List ℕ → Type 0
BeginsWithAuthority text authority =
    ((after : List ℕ) × IsCutBy EndsAuthority text authority after)
    ⊎ ((authority ≡ text) × IsOutside EndsAuthority text)

-- `target` is `http://`, in any case, and a text that begins with `authority`
abbrev pub HasAuthority : List ℕ → List ℕ → Type 0
HasAuthority target authority = (rest : List ℕ)
    × IgnoringCase (λ start. IsPrefix start target rest) (codes "http://")
    × BeginsWithAuthority rest authority

-- `header` is the header of `line`
abbrev pub IsHeaderOf : OwnedLine → Header → Type 0
IsHeaderOf line header = IsHeader line.text.text (text_of header.name) (text_of header.value)

-- each of `lines` is a header, no two have one name, ignoring ASCII case, and `map` has the value
-- of each at its name, and no other value
pub record AreHeaders (lines : List OwnedLine) (map : Entries AsciiStr) : Type 0 where
  pub headers : List Header
  pub each : AllZip IsHeaderOf lines headers
  pub apart : AllPairs (λ first second. ¬ (IsNamed (text_of second.name) first)) headers
  pub values : HasLastValues headers (values_in map)
  pub size : length map ≡ length lines

-- the lines before the one at `index` are headers with different names, those of a map, and of this
-- map and that line `Here` is true
abbrev pub StopsAt : List OwnedLine → ℕ → (Entries AsciiStr → OwnedLine → Type 0) → Type 0
StopsAt lines index Here = (map : Entries AsciiStr) × AreHeaders (take index lines) map
    × IsSomeAnd (slice_get lines index) (Here map)

-- why `lines` are not headers with different names. `NotHeader`: the line at `index` is the first
-- that is not a header, and `error` says why. `Twice`: it is the first that has the name of one
-- before it. `Memory` says nothing of the lines
abbrev pub IsHeadersError : List OwnedLine → HeadersError → Type 0
IsHeadersError lines (NotHeader index error) =
    StopsAt lines index (λ map line. IsHeaderError line.text.text error)
IsHeadersError lines (Twice index) = StopsAt lines index (λ map line. (header : Header)
    × IsHeaderOf line header × IsSome (folded_value_at map (text_of header.name)))
IsHeadersError lines Memory = ⊤

-- `list` is the names of `headers` in lower case, with `;` between each two. The names ascend, so
-- no two are equal
pub record IsNameList {V : Type 0} (headers : Entries V) (list : List ℕ) : Type 0 where
  pub names : list ≡ join_by (λ name. map lower_image name) (codes ";") (keys_of headers)
  pub ordered : IsStrictlySortedBy folded_order (keys_of headers)
