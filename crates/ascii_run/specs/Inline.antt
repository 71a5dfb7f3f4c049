-- A string whose text is in the value itself while it is short.
use Rattle.std.specs.Prelude.{ℕ}

-- how many characters a small string has room for in the value itself
abbrev pub inline_size : ℕ
inline_size = 24
