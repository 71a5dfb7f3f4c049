-- Appending a text in parts.
use Rattle.std.proofs.Common.{◌≡◌, ℕ, zero, suc, ◌+◌, ◌-◌, ◌<◌, ◌≤◌, List, [], ◌∷◌, ◌++◌, length}
use Rattle.std.proofs.Common.{drop, take, take-append-drop, false, replicate, set, Ok, Err, Result}
use Rattle.std.proofs.Common.{length-append, arith}
use Rattle.std.proofs.Common.{ap, refl, subst, sym, ◌∙◌, ◌/◌, ◌%◌, ◌^◌, ◌≢◌, ◌⊎◌, ⊎_elim, eq-eqb}
use Rattle.std.proofs.Common.{ne_eqb}
use Rattle.std.proofs.lemmas.List.{append_assoc, append-nil, drop_all, flat_map_more}
use Rattle.std.proofs.lemmas.List.{replicate-append-replicate, take_more}
use Rattle.std.proofs.lemmas.Grind.{flat_map-append}
use Rattle.std.specs.List.{flat_map}
use Rattle.std.specs.Prelude.{slice_index}
use Rattle.std.proofs.Math.Nat.{pow-suc}
use Rattle.std.proofs.lemmas.Bool.Decides.{nat_tests}
use Rattle.std.specs.Fmt.{digit_glyph, digits, digits_onto}
use Rattle.std.specs.Str.{IsAscii}
use Rattle.std.proofs.lemmas.Str.Ascii.{IsAscii-cons, IsAscii-nil}
use Rattle.ascii_formats.specs.Padding.{AppendsInParts}
use Rattle.ascii.specs.StringState.{GrowsTo, StringState}

-- two texts that are empty together
both_empty : (a b : List ℕ) → a ++ b ≡ [] → (a ≡ []) × (b ≡ [])
both_empty [] b none = (refl, none)
both_empty (code ∷ codes) b none = absurd (omega (arith, ap length none))

-- a part that is appended at once
pub part_at_once : {E : Type 0} {sure : ℕ} (codes : List ℕ) (old new : StringState)
    (result : Result (Unit {0}) E)
    → GrowsTo sure (old.text ++ codes) old new result → AppendsInParts sure codes old new result
part_at_once codes old new result grows = grind (arith, append-nil, length-append)

-- a part, and then another
pub two_parts : {E F : Type 0} {sure : ℕ} (a b : List ℕ) (old mid new : StringState) (u : Unit {0})
    (result : Result (Unit {0}) E)
    → AppendsInParts {E = F} sure a old mid (Ok u) → AppendsInParts sure b mid new result
    → AppendsInParts sure (a ++ b) old new result
two_parts a b old mid new u result first second =
    grind (arith, append_assoc, length-append, both_empty)

-- a part that did not fit, before another
pub first_part : {E F : Type 0} {sure : ℕ} (a b : List ℕ) (old new : StringState) (e : F) (f : E)
    → AppendsInParts sure a old new (Err e) → AppendsInParts sure (a ++ b) old new (Err f)
first_part a b old new e f first = grind (arith, length-append, both_empty)

-- no part
pub no_part : {E : Type 0} {sure : ℕ} (old : StringState) → AppendsInParts {E = E} sure [] old old (Ok tt)
no_part old = grind (arith, append-nil)

-- a code once more, if it fits
pub one_more : {E : Type 0} {sure : ℕ} (n code : ℕ) (old mid new : StringState) (result : Result (Unit {0}) E)
    → AppendsInParts {E = E} sure (replicate n code) old mid (Ok tt)
    → GrowsTo sure (mid.text ++ code ∷ []) mid new result
    → AppendsInParts sure (replicate (n + 1) code) old new result
one_more {sure = sure} n code old mid new result before grows =
    subst (λ codes. AppendsInParts sure codes old new result) (replicate-append-replicate n 1 code)
    (two_parts (replicate n code) (code ∷ []) old mid new tt result before
    (part_at_once (code ∷ []) mid new result grows))

-- what is appended for the codes of a text, and then for one more
pub text_more : {E : Type 0} {sure : ℕ} (f : ℕ → List ℕ) (text : List ℕ) (at : ℕ)
    (old mid new : StringState) (result : Result (Unit {0}) E) → at < length text
    → AppendsInParts {E = E} sure (flat_map f (take at text)) old mid (Ok tt)
    → AppendsInParts sure (f (slice_index text at)) mid new result
    → AppendsInParts sure (flat_map f (take (at + 1) text)) old new result
text_more {sure = sure} f text at old mid new result inside before part =
    let done = flat_map f (take at text) in
    let last = f (slice_index text at) in
    let more : done ++ last ≡ flat_map f (take (at + 1) text)
    = rw (take_more text at 0 inside) (flat_map_more f [] (take at text) (slice_index text at)) in
    subst (λ codes. AppendsInParts sure codes old new result) more
    (two_parts done last old mid new tt result before part)

-- some of what is appended for the codes of a text
pub some_text : {E F : Type 0} {sure : ℕ} (f : ℕ → List ℕ) (text : List ℕ) (at : ℕ)
    (old new : StringState) (e : F) (r : E)
    → AppendsInParts sure (flat_map f (take at text)) old new (Err e)
    → AppendsInParts sure (flat_map f text) old new (Err r)
some_text {sure = sure} f text at old new e r first =
    let whole = sym (flat_map-append f (take at text) (drop at text))
    ∙ ap (flat_map f) (take-append-drop at text) in
    subst (λ codes. AppendsInParts sure codes old new (Err r)) whole
    (first_part (flat_map f (take at text)) (flat_map f (drop at text)) old new e r first)

-- some of as many of a code
pub some_of : {E F : Type 0} {sure : ℕ} (n count code : ℕ) (old new : StringState) (e : F) (f : E) → n ≤ count
    → AppendsInParts sure (replicate n code) old new (Err e)
    → AppendsInParts sure (replicate count code) old new (Err f)
some_of {sure = sure} n count code old new e f inside first =
    let rest : n + (count - n) ≡ count = omega (arith, inside) in
    subst (λ codes. AppendsInParts sure codes old new (Err f))
    (replicate-append-replicate n (count - n) code ∙ ap (λ k. replicate k code) rest)
    (first_part (replicate n code) (replicate (count - n) code) old new e f first)

-- the codes from one on that is written
pub from_written : (room : List ℕ) (at code : ℕ) → at < length room
    → drop at (set room at code) ≡ code ∷ drop (suc at) room
from_written [] at code inside = absurd (omega (arith, inside))
from_written (first ∷ rest) zero code inside = refl
from_written (first ∷ rest) (suc at) code inside = from_written rest at code (omega (arith, inside))

-- a number below the base has one digit, and another has one more than its quotient
last_digit : (turns n : ℕ) (after : List ℕ) → n / 16 ≡ 0
    → digits_onto (suc turns) 16 false n after ≡ digit_glyph false (n % 16) ∷ after
last_digit turns n after none = rw (eq-eqb (n / 16) 0 none) refl

more_digits : (turns n : ℕ) (after : List ℕ) → n / 16 ≢ 0
    → digits_onto (suc turns) 16 false n after
    ≡ digits_onto turns 16 false (n / 16) (digit_glyph false (n % 16) ∷ after)
more_digits turns n after more = rw (ne_eqb (n / 16) 0 more) refl

-- the codes from the one that is written at `15 - written` on
after_digit : (room : List ℕ) (written code : ℕ) → length room ≡ 16 → written < 16
    → drop (15 - written) (set room (15 - written) code) ≡ code ∷ drop (16 - written) room
after_digit room written code size inside =
    let next : suc (15 - written) ≡ 16 - written = omega (arith, inside) in
    grind (arith, from_written)

-- the digits of a number, when the last of its quotients is written
pub digits_written : (room : List ℕ) (written rest n : ℕ) → length room ≡ 16 → written < 16
    → digits_onto (64 - written) 16 false rest (drop (16 - written) room) ≡ digits 16 false n
    → rest / 16 ≡ 0
    → drop (15 - written) (set room (15 - written) (digit_glyph false (rest % 16)))
    ≡ digits 16 false n
digits_written room written rest n size inside so_far none = grind (arith, after_digit, last_digit)

-- none is written
pub no_digits : (room : List ℕ) (n : ℕ) → length room ≡ 16
    → digits_onto 64 16 false n (drop 16 room) ≡ digits 16 false n
unfolding digits
no_digits room n size = ap (digits_onto 64 16 false n) (drop_all 16 room (omega (arith, size)))

-- and when another is
pub digit_written : (room : List ℕ) (written rest n : ℕ) → length room ≡ 16 → written < 16
    → digits_onto (64 - written) 16 false rest (drop (16 - written) room) ≡ digits 16 false n
    → rest / 16 ≢ 0
    → digits_onto (64 - (written + 1)) 16 false (rest / 16)
    (drop (16 - (written + 1)) (set room (15 - written) (digit_glyph false (rest % 16))))
    ≡ digits 16 false n
digit_written room written rest n size inside so_far more =
    let glyph = digit_glyph false (rest % 16) in
    let longer = set room (15 - written) glyph in
    let left : 64 - (written + 1) ≡ 63 - written = omega (arith, inside) in
    let at : 16 - (written + 1) ≡ 15 - written = omega (arith, inside) in
    let turns : 64 - written ≡ suc (63 - written) = omega (arith, inside) in
    grind (arith, after_digit, more_digits)

-- a quotient has one digit less
pub fewer_digits : (rest written : ℕ) → written < 16 → rest < 16 ^ (16 - written)
    → rest / 16 < 16 ^ (16 - (written + 1))
fewer_digits rest written inside below = grind (arith, pow-suc 16 (16 - (written + 1)))

-- a number is 0, or more
zero_or_more : (n : ℕ) → (n ≡ 0) ⊎ (0 < n)
zero_or_more n = grind arith

-- the digits of a number are ASCII
digits_ascii : (turns n : ℕ) (after : List ℕ) → IsAscii after
    → IsAscii (digits_onto turns 16 false n after)
digits_ascii zero n after ascii = ascii
digits_ascii (suc turns) n after ascii =
    let glyph : digit_glyph false (n % 16) < 128 = grind (arith, nat_tests) in
    let longer = IsAscii-cons (digit_glyph false (n % 16)) after glyph ascii in
    ⊎_elim (λ none. subst IsAscii (sym (last_digit turns n after none)) longer)
    (λ more. subst IsAscii (sym (more_digits turns n after (λ none. omega (arith, more, none))))
    (digits_ascii turns (n / 16) (digit_glyph false (n % 16) ∷ after) longer))
    (zero_or_more (n / 16))

pub hex_ascii : (n : ℕ) → IsAscii (digits 16 false n)
unfolding digits
hex_ascii n = digits_ascii 64 n [] IsAscii-nil
