-- The visible code point of each character.
use Rattle.std.specs.Prelude.{ℕ, ◌+◌, if◌then◌else◌, nat_le, ◌==◌}

-- a picture from U+2400 on for 0 to 31 and for delete, and itself for every other code
abbrev pub printable_of : ℕ → ℕ
printable_of n = if nat_le n 31 then 9216 + n else (if n == 127 then 9249 else n)
