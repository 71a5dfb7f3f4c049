-- What `{:>width$}` writes of a count.
use Rattle.std.proofs.Common.{◌≡◌, ◌≢◌, ◌^◌, ◌-◌, ℕ, zero, suc, List, [], ◌∷◌, ◌++◌, ap, arith}
use Rattle.std.proofs.Common.{append-nil, length, ne_eqb, refl, replicate}
use Rattle.std.proofs.Math.Utf8.{encode}
use Rattle.std.specs.Fmt.{char_count, decimal, format_spec, padded_integral, styled_decimal}
use Rattle.std.specs.List.{repeat}
use Rattle.std.proofs.lemmas.Str.Ascii.{encode_ascii}

-- a code is repeated
repeat_one : (n code : ℕ) → repeat n (code ∷ []) ≡ replicate n code
repeat_one zero code = refl
repeat_one (suc n) code = ap (λ codes. code ∷ codes) (repeat_one n code)

-- spaces before digits, and none after them
spaces_before : (before short : ℕ) (digits : List ℕ) → before ≡ short
    → (((repeat before (encode 32) ++ []) ++ []) ++ [])
    ++ (digits ++ repeat (before - before) (encode 32)) ≡ replicate short 32 ++ digits
spaces_before before short digits is =
    let none : before - before ≡ 0 = omega arith in
    rw (none, is, encode_ascii 32 (omega arith), repeat_one short 32) (simp append-nil refl)

-- a number is written after spaces that fill it up to the width
pub filled : (width n : ℕ) → styled_decimal (format_spec 32 3 0 width (2 ^ 64 - 1)) n
    ≡ replicate (width - length (decimal n)) 32 ++ decimal n
unfolding padded_integral char_count
filled zero n =
    let none : 0 ≡ 0 - length (decimal n) = omega arith in
    ap (λ count. replicate count 32 ++ decimal n) none
filled (suc width) n =
    let short = suc width - length (decimal n) in
    let some : suc width ≢ 0 = grind arith in
    rw (ne_eqb (suc width) 0 some) (spaces_before (short - 0 - 0) short (decimal n) (omega arith))
