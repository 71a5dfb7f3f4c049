-- A part of a source, given by its start and its end.
use Rattle.std.specs.Prelude.{ℕ, List, ◌≡◌, ◌≤◌, ◌⊎◌, length}
use Rattle.ascii.specs.Bytes.{FirstOther}

-- the part from `start` up to, but not including, `end` is within the source
abbrev pub IsWithin : List ℕ → ℕ → ℕ → Type 0
IsWithin source start end = (start ≤ end) × (end ≤ length source)

-- why the part is rejected: it is within the source, and `place` is the position of its first byte
-- above 127; or it is not within the source, and `place` is the length of the source
abbrev pub IsRejectedAt : List ℕ → ℕ → ℕ → ℕ → Type 0
IsRejectedAt source start end place =
    (IsWithin source start end × FirstOther source start end place)
    ⊎ (¬ IsWithin source start end × (place ≡ length source))
