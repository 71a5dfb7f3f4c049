-- The last of a list of pieces.
use Rattle.std.specs.Prelude.{◌≡◌, ℕ, List, [], ◌∷◌, ◌++◌}

-- `last` is the last of `pieces`
abbrev pub EndsWithPiece : List (List ℕ) → List ℕ → Type 0
EndsWithPiece pieces last = (others : List (List ℕ)) × (pieces ≡ others ++ last ∷ [])
