-- Identifiers.
use Rattle.std.specs.Prelude.{◌≡◌, ℕ, ◌⊎◌}
use Rattle.ascii.specs.Class.{IsAlphanumeric}

-- a code that an identifier may contain: a letter, a digit or `_`
abbrev pub IsIdentifierCode : ℕ → Type 0
IsIdentifierCode code = IsAlphanumeric code ⊎ (code ≡ 95)
