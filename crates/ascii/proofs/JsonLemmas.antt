-- A text of one byte is a code.
use Rattle.std.proofs.Common.{◌≡◌, ℕ, ◌<◌, List, [], ◌∷◌, length, get_or, arith, ap, ◌∙◌}
use Rattle.std.proofs.Common.{length-append}
use Rattle.std.proofs.Math.Utf8.{encode, encodes}
use Rattle.std.proofs.lemmas.Bool.Decides.{nat_tests}
use Rattle.std.proofs.lemmas.Str.{length-encode}
use Rattle.std.proofs.lemmas.Str.Ascii.{encode_ascii}
use Rattle.std.specs.Str.{IsUtf8}

first_byte : (cs : List ℕ) → length (encodes cs) ≡ 1 → get_or (encodes cs) 0 0 < 128
first_byte [] one = omega arith
first_byte (c ∷ cs) one =
    grind (arith, encode_ascii, nat_tests, length-append, encode, encodes, length-encode)

-- the byte of a text of one byte
pub one_byte_below : (bs : List ℕ) → IsUtf8 bs → length bs ≡ 1 → get_or bs 0 0 < 128
one_byte_below bs text one = rw (← text.1.1) (first_byte text.0 (ap length text.1.1 ∙ one))
