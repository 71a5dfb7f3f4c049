-- The mode `Json`: a double quote, the characters of the text one by one, a double quote.
use Rattle.std.specs.Prelude.{◌&&◌, Bool, not}
use Rattle.std.specs.Bool.{Decides}
use Rattle.std.proofs.Common.{arith, eqb, leb}
use Rattle.std.proofs.lemmas.Bool.{leb-true, le-leb}
use Rattle.std.proofs.lemmas.Bool.Decides.{Decides-and, Decides-eqb, Decides-like, Decides-not}
use Rattle.std.proofs.lemmas.Bool.Decides.{nat_tests}
use Rattle.std.specs.Prelude.{◌≡◌, ◌≢◌, ◌<◌, ◌≤◌, ℕ, ◌/◌, ◌%◌, List, [], ◌∷◌, ◌++◌, get_or}
use Rattle.std.specs.Prelude.{if◌then◌else◌, ◌==◌, nat_lt, codes, length, map}
use Rattle.std.specs.Char.{digit_char}
use Rattle.std.specs.List.{flat_map}
use Rattle.ascii_run.specs.declared.modes.json_string.Escapes.{Escapes}

-- a code as it appears in a JSON string: `\b`, `\t`, `\n`, `\f`, `\r`, `\"`, `\\`, `\u00` and two
-- hexadecimal digits for the other codes less than 32, otherwise itself
abbrev pub json_code : ℕ → List ℕ
json_code n =
    if n == 8 then codes "\\b"
    else (if n == 9 then codes "\\t"
    else (if n == 10 then codes "\\n"
    else (if n == 12 then codes "\\f"
    else (if n == 13 then codes "\\r"
    else (if n == 34 then codes "\\\""
    else (if n == 92 then codes "\\\\"
    else (if nat_lt n 32 then codes "\\u00" ++ digit_char (n / 16) ∷ digit_char (n % 16) ∷ []
    else n ∷ [])))))))

-- a text as a compact JSON string
abbrev pub json_text : List ℕ → List ℕ
json_text text = codes "\"" ++ (flat_map json_code text ++ codes "\"")

-- ---- cited by private functions only

-- the code appears as itself in a JSON string
abbrev pub IsUnescaped : ℕ → Type 0
IsUnescaped n = (32 ≤ n) × (n ≢ 34) × (n ≢ 92)

-- `texts` are the JSON strings of the first `n` characters, each character by itself
abbrev pub AreEscapes : ℕ → List (List ℕ) → Type 0
AreEscapes n texts =
    (length texts ≡ n)
    × ((code : ℕ) → code < n → get_or texts code [] ≡ json_text (code ∷ []))

-- the JSON strings of all characters are there
abbrev pub HasEscapes : {A : Type 0} → Escapes A → Type 0
HasEscapes escapes = AreEscapes 128 (map (λ escape. escape.text) escapes.strings.items)

-- the test of these codes, and that it decides them
abbrev pub is_unescaped : ℕ → Bool
is_unescaped n = leb 32 n && (not (eqb n 34) && not (eqb n 92))

pub is_unescaped-decides : (n : ℕ) → Decides (is_unescaped n) (IsUnescaped n)
is_unescaped-decides n = Decides-like (is_unescaped n) (λ h. (h.0, h.1.0, h.1.1))
    (λ h. (h.0, (h.1, h.2))) (Decides-and (leb 32 n) (not (eqb n 34) && not (eqb n 92))
    (leb-true 32 n, le-leb 32 n) (Decides-and (not (eqb n 34)) (not (eqb n 92))
    (Decides-not (eqb n 34) (Decides-eqb n 34)) (Decides-not (eqb n 92) (Decides-eqb n 92))))

-- such a code is shown as itself
pub json_plain : (n : ℕ) → IsUnescaped n → json_code n ≡ n ∷ []
json_plain n (low, quote, back) = grind (arith, nat_tests)
