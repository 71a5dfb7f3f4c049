-- Portable file names.
use Rattle.std.specs.Prelude.{◌≡◌, ◌⊎◌, ℕ, List, codes}
use Rattle.std.specs.Int.{IsInRange}
use Rattle.std.specs.List.{All}
use Rattle.ascii.specs.Class.{IsAlphanumeric}
use Rattle.ascii.specs.Search.{ContainsText, StartsWith}

-- a code that a portable name may contain: a letter, a digit, `.`, `_`, `-`, or the `/` between
-- components
abbrev pub IsPathCode : ℕ → Type 0
IsPathCode code = IsAlphanumeric code ⊎ IsInRange 45 47 code ⊎ (code ≡ 95)

-- `name` has only such codes, and no component of it starts with `-`
pub record IsPortable (name : List ℕ) : Type 0 where
  pub all : All IsPathCode name
  pub first : ¬ (StartsWith (codes "-") name)
  pub others : ¬ (ContainsText (codes "/-") name)
