-- Caret notation: a control character is written as a caret and a printable character.
use Rattle.std.specs.Prelude.{◌⊎◌, ℕ, ◌≡◌, ◌+◌, ◌≤◌}

-- `n` is a control character and `m` the code written after the caret: 64 to 95 for 0 to 31, and
-- that of `?` for delete
abbrev pub IsCaretPair : ℕ → ℕ → Type 0
IsCaretPair n m = ((n ≤ 31) × (m ≡ n + 64)) ⊎ ((n ≡ 127) × (m ≡ 63))
