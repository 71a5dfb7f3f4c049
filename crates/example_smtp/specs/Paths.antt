-- The paths of mail: whom it comes from, and whom it goes to.
use Rattle.std.specs.Prelude.{◌≡◌, ◌≢◌, ◌⊎◌, ◌≤◌, ◌-◌, ℕ, Bool, List, [], ◌∷◌, ◌++◌, Some}
use Rattle.std.specs.Prelude.{codes, false, length, map, slice_get, true}
use Rattle.std.specs.List.{All, Contains}
use Rattle.std.specs.Net.Grammar.{IsIpv4Text, IsIpv6Text}
use Rattle.std.specs.declared.net.ipv4_addr.Ipv4Addr.{Ipv4Addr}
use Rattle.std.specs.declared.net.ipv6_addr.Ipv6Addr.{Ipv6Addr}
use Rattle.ascii.specs.Case.{lower_image}
use Rattle.ascii.specs.Class.{IsAtomCode, IsLabelCode, IsPrintable}
use Rattle.ascii.specs.Pieces.{Pieces}
use Rattle.ascii.specs.Search.{IgnoringCase, IsCut, IsCutAt, IsPrefix, StartsWith}

-- `text` is `inner` between `start` and `end`
abbrev pub IsBetween : List ℕ → List ℕ → List ℕ → List ℕ → Type 0
IsBetween start end text inner = start ++ (inner ++ end) ≡ text

-- ---- the part before the `@`

-- an atom: one at least of these characters
abbrev pub IsAtom : List ℕ → Type 0
IsAtom text = (text ≢ []) × All IsAtomCode text

-- the parts of `text` between separators of this code are all such
abbrev pub AreBetween : ℕ → (List ℕ → Type 0) → List ℕ → Type 0
AreBetween separator Is text =
    (parts : List (List ℕ)) × Pieces text separator parts × All Is parts

-- a text between quotes, by whether a backslash before it escapes its first character: printable
-- characters; a quote is escaped, and so may be any other; a backslash that is not escaped escapes the
-- character after it, which has to be there
abbrev pub IsQuotedText : Bool → List ℕ → Type 0
IsQuotedText escaped [] = escaped ≡ false
IsQuotedText true (code ∷ rest) = IsPrintable code × IsQuotedText false rest
IsQuotedText false (code ∷ rest) = IsPrintable code × (((code ≡ 92) × IsQuotedText true rest)
    ⊎ ((code ≢ 92) × (code ≢ 34) × IsQuotedText false rest))

-- a text between quotes
abbrev pub IsQuoted : List ℕ → Type 0
IsQuoted text = (inner : List ℕ) × IsBetween (34 ∷ []) (34 ∷ []) text inner
    × IsQuotedText false inner

-- the name of a mailbox: atoms between dots, or a text between quotes, of at most 64 characters
abbrev pub IsName : List ℕ → Type 0
IsName text = (length text ≤ 64) × (AreBetween 46 IsAtom text ⊎ IsQuoted text)

-- ---- the part after it

-- a label of a domain: letters, digits and hyphens, at most 63, and no hyphen at an end
pub record IsLabel (text : List ℕ) : Type 0 where
  pub some : text ≢ []
  pub short : length text ≤ 63
  pub codes : All IsLabelCode text
  pub first : slice_get text 0 ≢ Some 45
  pub last : slice_get text (length text - 1) ≢ Some 45

-- `IPv6:`, in any case, and an address of IPv6
abbrev pub IsTaggedAddress : List ℕ → Type 0
IsTaggedAddress text = (rest : List ℕ) × (address : Ipv6Addr)
    × IgnoringCase (λ tag. IsPrefix tag text rest) (codes "IPv6:") × IsIpv6Text rest address

-- an address of the Internet
abbrev pub IsAddress : List ℕ → Type 0
IsAddress text = ((address : Ipv4Addr) × IsIpv4Text text address) ⊎ IsTaggedAddress text

-- an address in brackets
abbrev pub IsLiteral : List ℕ → Type 0
IsLiteral text = (inner : List ℕ) × IsBetween (codes "[") (codes "]") text inner × IsAddress inner

-- the name of a domain: labels between dots, of at most 255 characters
abbrev pub IsDomainName : List ℕ → Type 0
IsDomainName text = (length text ≤ 255) × AreBetween 46 IsLabel text

-- the domain of a mailbox: a name, or an address in brackets
abbrev pub IsDomain : List ℕ → Type 0
IsDomain text = IsDomainName text ⊎ IsLiteral text

-- ---- paths

-- `name` and `domain` are what is before and after the last `@` of `text`
abbrev pub IsCutAtLastAt : List ℕ → List ℕ → List ℕ → Type 0
IsCutAtLastAt = IsCut (λ name domain. ¬ (Contains domain 64)) (codes "@")

-- a mailbox: a name and a domain, with the last `@` between them
abbrev pub IsMailbox : List ℕ → Type 0
IsMailbox text = (name : List ℕ) × (domain : List ℕ) × IsCutAtLastAt text name domain
    × IsName name × IsDomain domain

-- whom a message comes from: a mailbox, or nobody
abbrev pub IsSender : List ℕ → Type 0
IsSender text = (text ≡ []) ⊎ IsMailbox text

-- whom a message goes to: a mailbox, or the postmaster, in any case
abbrev pub IsRecipient : List ℕ → Type 0
IsRecipient text = (map lower_image text ≡ codes "postmaster") ⊎ IsMailbox text

-- a host of a route: `@` and the name of a domain
abbrev pub IsHop : List ℕ → Type 0
IsHop text = (name : List ℕ) × IsPrefix (codes "@") text name × IsDomainName name

-- `text` is `address`; or, if it begins with `@`, a route, a colon and the mailbox `address`. A route
-- is hosts with commas between them
abbrev pub IsRouted : List ℕ → List ℕ → Type 0
IsRouted address text = (¬ (StartsWith (codes "@") text) × (text ≡ address))
    ⊎ (StartsWith (codes "@") text × ((route : List ℕ) × IsCutAt 58 text route address
    × AreBetween 44 IsHop route × IsMailbox address))

-- `path` is `address` between `<` and `>`, perhaps with a route before it, which changes nothing
abbrev pub IsPath : List ℕ → List ℕ → Type 0
IsPath address path = (inner : List ℕ) × IsBetween (codes "<") (codes ">") path inner
    × IsRouted address inner
