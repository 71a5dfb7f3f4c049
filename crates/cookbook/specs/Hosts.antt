-- Host names: labels joined by dots.
use Rattle.std.specs.Prelude.{◌≡◌, ◌≢◌, ℕ, ◌+◌, ◌-◌, ◌<◌, ◌≤◌, ◌⊎◌, List, [], IfErr, Some, length}
use Rattle.std.specs.Prelude.{slice_get}
use Rattle.std.specs.List.{All}
use Rattle.std.specs.declared.result.Result.{Result}
use Rattle.ascii.specs.Class.{IsLabelCode}
use Rattle.ascii.specs.First.{IsFirstAt}
use Rattle.ascii.specs.Pieces.{Pieces}
use Rattle.ascii.specs.Spans.{PieceSpans, WithStart}
use Rattle.ascii_run.specs.Inline.{inline_size}
use Rattle.cookbook.specs.declared.hosts.HostName.{HostName}
use Rattle.cookbook.specs.declared.hosts.HostNameError.{HostNameError}
use Rattle.cookbook.specs.declared.hosts.HostNameError.TheVariants.{Character, EmptyLabel, Hyphen}
use Rattle.cookbook.specs.declared.hosts.HostNameError.TheVariants.{LongLabel, Memory, TooLong}

-- `label` has 1 to 63 codes, all of them letters, digits and hyphens, and it does not start or end
-- with a hyphen
pub record IsLabel (label : List ℕ) : Type 0 where
  pub some : label ≢ []
  pub short : length label ≤ 63
  pub codes : All IsLabelCode label
  pub first : slice_get label 0 ≢ Some 45
  pub last : slice_get label (length label - 1) ≢ Some 45

-- `name` is at most 253 codes long, and its pieces between dots are labels
pub record IsHost (name : List ℕ) : Type 0 where
  pub short : length name ≤ 253
  pub labels : List (List ℕ)
  pub joined : Pieces name 46 labels
  pub each : All IsLabel labels

-- the label has a hyphen at the position `place` of the name: at its start, or at its end if there
-- is none at its start
abbrev pub HasHyphenAt : WithStart (List ℕ) → ℕ → Type 0
HasHyphenAt label place =
    ((place ≡ label.start) × (slice_get label.item 0 ≡ Some 45))
    ⊎ ((place + 1 ≡ label.start + length label.item) × (slice_get label.item 0 ≢ Some 45)
    × (slice_get label.item (length label.item - 1) ≡ Some 45))

-- why a piece of a name is not a label, and the position in the name that the error holds.
-- `EmptyLabel`: it is empty; its start. `LongLabel`: it has more than 63 codes; its start.
-- `Character`: it has at most 63 codes; the first that is not a letter, digit or hyphen.
-- `Hyphen`: it has at most 63 codes, all of these; a hyphen at its start or end. No other error is
-- one of a label
abbrev pub IsLabelError : WithStart (List ℕ) → HostNameError → Type 0
IsLabelError label (EmptyLabel place) = (place ≡ label.start) × (label.item ≡ [])
IsLabelError label (LongLabel place) = (place ≡ label.start) × (63 < length label.item)
IsLabelError label (Character place) = (length label.item ≤ 63)
    × ((i : ℕ) × (place ≡ label.start + i)
    × IsFirstAt IsLabelCode (λ code. ¬ (IsLabelCode code)) label.item i)
IsLabelError label (Hyphen place) =
    (length label.item ≤ 63) × All IsLabelCode label.item × HasHyphenAt label place
IsLabelError label other = ⊥

-- why `name` gives no host. `TooLong`: it has more than 253 codes. `Memory`: it is a host name, too
-- long to be kept inline. Otherwise it has at most 253 codes, and the error is that of its first
-- piece that is not a label
abbrev pub IsHostError : List ℕ → HostNameError → Type 0
IsHostError name TooLong = 253 < length name
IsHostError name Memory = IsHost name × (inline_size < length name)
IsHostError name other = (length name ≤ 253)
    × ((labels : List (WithStart (List ℕ))) × (k : ℕ) × PieceSpans 0 name 46 labels
    × IsFirstAt (λ label. IsLabel label.item) (λ label. IsLabelError label other) labels k)

-- if `result` is an error, it is `Memory`
abbrev pub OnlyFailsOnAlloc : {T : Type 0} → Result T HostNameError → Type 0
OnlyFailsOnAlloc result = IfErr result (λ error. error ≡ Memory)

-- the name of a host, in lower case
abbrev pub host_text : HostName → List ℕ
host_text host = host.name.text
