-- The compact JSON text of a text is what the toolchain's writer gives, and is itself a text.
use Rattle.std.proofs.Common.{◌≡◌, ℕ, ◌<◌, List, [], ◌∷◌, ◌++◌, ap, ◌∙◌, sym, arith, append-nil}
use Rattle.std.proofs.Common.{map, length-append, ◌+◌, subst, nat_lt, get_or}
use Rattle.std.proofs.lemmas.Bool.Decides.{nat_tests}
use Rattle.std.proofs.lemmas.Str.Ascii.{All-from_ascii, IsAscii-from_all}
use Rattle.std.proofs.lemmas.List.{get_or-map, get_or_append_left, length-map, map-append}
use Rattle.std.proofs.Math.Seq.{get_or-append_seam}
use Rattle.std.proofs.lemmas.List.Elements.{All-append, All-from_get_or, All-cons, All-head}
use Rattle.std.proofs.lemmas.List.Elements.{All-nil, All-tail}
use Rattle.std.proofs.lemmas.Bool.{agree_below_at, cases_lt, ltb-true}
use Rattle.std.proofs.lemmas.List.Sums.{AllPass-from_list_all}
use Rattle.std.specs.List.{All, flat_map}
use Rattle.std.specs.Str.{IsAscii}
use Rattle.json.specs.Print.{escape_byte, print, print_from}
use Rattle.json.specs.Token.{Token, string}
use Rattle.ascii_run.specs.Modes.Json.{AreEscapes, json_code, json_text}

-- a code in a JSON string, as the writer has it
json_code-is : (n : ℕ) → json_code n ≡ escape_byte n
unfolding escape_byte
json_code-is n = grind (arith, nat_tests)

json_codes : (t : List ℕ) → flat_map escape_byte t ≡ flat_map json_code t
json_codes t = grind (arith, json_code-is)

-- what the writer prints for a text
pub print-string : (t : List ℕ) → print (string t ∷ []) ≡ json_text t
unfolding print_from
print-string t = append-nil (34 ∷ (flat_map escape_byte t ++ 34 ∷ []))
    ∙ ap (λ cs. 34 ∷ (cs ++ 34 ∷ [])) (json_codes t)

-- the bytes of a code in a JSON string are codes
json_code-ascii : (n : ℕ) → n < 128 → All (λ b. b < 128) (json_code n)
json_code-ascii n low =
    grind (arith, nat_lt, AllPass-from_list_all, agree_below_at, All-from_get_or, ltb-true)

json_codes-ascii : (t : List ℕ) → All (λ b. b < 128) t → All (λ b. b < 128) (flat_map json_code t)
json_codes-ascii [] h = All-nil (λ b. b < 128)
json_codes-ascii (x ∷ xs) h =
    All-append (λ b. b < 128) (json_code x) (flat_map json_code xs)
    (json_code-ascii x (All-head (λ b. b < 128) x xs h))
    (json_codes-ascii xs (All-tail (λ b. b < 128) x xs h))

-- the compact JSON text of a text is a text
pub IsAscii-json_text : (t : List ℕ) → IsAscii t → IsAscii (json_text t)
IsAscii-json_text t h =
    let Low : ℕ → Type 0 = λ b. b < 128 in
    let quote : 34 < 128 = omega arith in
    let end : All Low (34 ∷ []) = All-cons Low 34 [] quote (All-nil Low) in
    IsAscii-from_all (json_text t)
    (All-cons Low 34 (flat_map json_code t ++ 34 ∷ []) quote
    (All-append Low (flat_map json_code t) (34 ∷ [])
    (json_codes-ascii t (All-from_ascii t h)) end))

-- what the writer holds after one string
pub printed : (items before : List ℕ) (tokens old : List Token) (t text : List ℕ)
    → items ≡ before ++ print tokens → before ≡ []
    → tokens ≡ old ++ string t ∷ [] → old ≡ [] → t ≡ text → items ≡ json_text text
printed items before tokens old t text is none held empty same = grind (arith, print-string)

-- the escape of a code, by its place
pub escape_at : {F : Type 0} (text : F → List ℕ) (escapes : List F) (code : ℕ) (escape : F)
    → AreEscapes 128 (map text escapes) → code < 128
    → escape ≡ get_or escapes code escape → text escape ≡ json_text (code ∷ [])
escape_at text escapes code escape are low is = grind (arith, get_or-map, length-map)

-- one escape more
pub escape_more : {F : Type 0} (text : F → List ℕ) (escapes : List F) (escape : F) (n : ℕ)
    → AreEscapes n (map text escapes) → text escape ≡ json_text (n ∷ [])
    → AreEscapes (n + 1) (map text (escapes ++ escape ∷ []))
escape_more text escapes escape n are is =
    let texts = map text escapes in
    let more : map text (escapes ++ escape ∷ []) ≡ texts ++ text escape ∷ [] =
    map-append text escapes (escape ∷ []) in
    let last : get_or (texts ++ text escape ∷ []) n [] ≡ json_text (n ∷ []) =
    grind (arith, get_or-append_seam) in
    subst (AreEscapes (n + 1)) (sym more) (
      omega (arith, length-append texts (text escape ∷ []), are.0),
      λ code low.
          grind (arith, get_or_append_left, cases_lt),
    )
