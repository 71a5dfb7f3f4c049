-- Upper and lower case of bytes.
use Rattle.std.specs.Prelude.{ℕ, ◌+◌, ◌-◌, if◌then◌else◌, nat_le, ◌&&◌}

-- the upper image of a byte: `A` to `Z` for `a` to `z`, and itself for every other byte
abbrev pub upper_image : ℕ → ℕ
upper_image n = if nat_le 97 n && nat_le n 122 then n - 32 else n

-- the lower image of a byte: `a` to `z` for `A` to `Z`, and itself for every other byte
abbrev pub lower_image : ℕ → ℕ
lower_image n = if nat_le 65 n && nat_le n 90 then n + 32 else n
