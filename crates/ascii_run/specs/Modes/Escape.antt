-- The mode `Escape`: what std's `escape_ascii` writes for each byte.
use Rattle.std.proofs.Common.{arith}
use Rattle.std.proofs.lemmas.Bool.Decides.{nat_tests}
use Rattle.std.specs.Char.Escape.{escape_ascii}
use Rattle.std.specs.Prelude.{◌≡◌, ◌≢◌, ◌≤◌, ◌<◌, ℕ, [], ◌∷◌}

-- ---- cited by private functions only

-- the byte is shown as itself: it is printable, and no quote and no backslash
abbrev pub IsUnescapedByte : ℕ → Type 0
IsUnescapedByte n = (32 ≤ n) × (n < 127) × (n ≢ 34) × (n ≢ 39) × (n ≢ 92)

pub escape_plain : (n : ℕ) → IsUnescapedByte n → escape_ascii n ≡ n ∷ []
escape_plain n (low, high, quote, single, back) = grind (arith, nat_tests)
