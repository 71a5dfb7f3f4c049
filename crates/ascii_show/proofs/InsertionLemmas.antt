-- How a word breaks at its first colon.
use Rattle.std.proofs.Common.{◌≡◌, ℕ, ◌+◌, Bool, List, [], ◌∷◌, ◌++◌, Some, None, length, get_or}
use Rattle.std.proofs.Common.{refl, sym, subst, arith, eqb-true}
use Rattle.std.specs.Prelude.{position, ◌==◌}
use Rattle.std.specs.List.{position_or_len, slice_range}
use Rattle.std.specs.Str.Parse.{AllDigits}
use Rattle.std.proofs.Math.Seq.{drop-cons, take-append_seam}
use Rattle.std.proofs.lemmas.Bool.{lt-ltb, ne_eqb}
use Rattle.std.proofs.lemmas.Grind.{common_steps}
use Rattle.std.proofs.lemmas.List.{take-append-drop, length-append}
use Rattle.std.proofs.lemmas.List.Quantifiers.{position-Some}
use Rattle.std.proofs.lemmas.Str.Parse.{digit_from_value}
use Rattle.ascii.specs.View.{text_of}
use Rattle.ascii.specs.declared.ascii_str.AsciiStr.{AsciiStr}
use Rattle.ascii_show.specs.Words.{AreDigitsOf, IsInsertion}

abbrev pub is_colon : ℕ → Bool
is_colon byte = byte == 58

-- digits hold no colon
before_colon : (digits text : List ℕ) → AllDigits 10 digits
    → position_or_len is_colon (digits ++ 58 ∷ text) ≡ length digits
before_colon [] text all = refl
before_colon (digit ∷ digits) text all =
    let range = digit_from_value digit all.0 in
    rw (ne_eqb digit 58 (λ is. omega (arith, range, is)), before_colon digits text all.1)
    (omega arith)

found_colon : (digits text : List ℕ) → AllDigits 10 digits
    → position is_colon (digits ++ 58 ∷ text) ≡ Some (length digits)
found_colon digits text all =
    rw (
      before_colon digits text all,
      lt-ltb (length digits) (length (digits ++ 58 ∷ text))
          (omega (arith, length-append digits (58 ∷ text))),
    ) refl

-- an insertion has a colon
pub no_insertion : (word : List ℕ) (n : ℕ) (view : AsciiStr) → None ≡ position is_colon word
    → ¬ (IsInsertion word n view)
no_insertion word n view none of =
    let some : position is_colon word ≡ Some (length of.0) =
    rw of.1 (found_colon of.0 (text_of view) of.2.0.1) in
    grind (arith, none, some)

-- and its number is before the first one
pub number_of_insertion : (word : List ℕ) (k n : ℕ) (view : AsciiStr)
    → Some k ≡ position is_colon word → IsInsertion word n view
    → AreDigitsOf (slice_range word 0 k) n
number_of_insertion word k n view at of =
    let some : position is_colon word ≡ Some (length of.0) =
    rw of.1 (found_colon of.0 (text_of view) of.2.0.1) in
    let same : k ≡ length of.0 = grind (arith, at, some) in
    let digits : slice_range word 0 k ≡ of.0 =
    rw (of.1, same) (grind (arith, take-append_seam of.0 (58 ∷ text_of view))) in
    subst (λ ds. AreDigitsOf ds n) (sym digits) of.2

-- an argument with a colon is what comes before it, the colon, and what comes after it
pub at_colon : (word : List ℕ) (k : ℕ) → Some k ≡ position is_colon word
    → word ≡ slice_range word 0 k ++ (58 ∷ slice_range word (k + 1) (length word))
at_colon word k at =
    let found = position-Some is_colon word k 0 (sym at) in
    let colon : get_or word k 0 ≡ 58 = eqb-true (get_or word k 0) 58 found.1 in
    grind (arith, common_steps, take-append-drop, drop-cons, found.0, colon)
