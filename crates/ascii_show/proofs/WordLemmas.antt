-- The letter that the argument of a command begins with, and what comes after it.
use Rattle.std.proofs.Common.{◌≡◌, ◌≢◌, ◌<◌, ◌+◌, ◌^◌, Result, Ok, Err, length}
use Rattle.std.proofs.Common.{◌≤◌, ℕ, List, [], ◌∷◌, ◌++◌, Option, Some, None, MatchOption, get_or}
use Rattle.std.proofs.Common.{drop, refl, sym, ap, subst, arith}
use Rattle.std.specs.Prelude.{MatchResult}
use Rattle.std.specs.Result.{result_ok}
use Rattle.std.specs.Str.{IsAscii}
use Rattle.std.specs.Str.Parse.{AllDigits}
use Rattle.std.proofs.lemmas.Str.{IsAscii-append}
use Rattle.std.proofs.lemmas.Str.Ascii.{IsAscii-cons, IsAscii-nil}
use Rattle.std.proofs.lemmas.Str.Parse.{digit_from_value}
use Rattle.ascii_formats.proofs.NumbersLemmas.{no_fault}
use Rattle.ascii_formats.specs.Numbers.{IsNumberFault, WritesNumber}
use Rattle.ascii.specs.View.{text_of}
use Rattle.ascii.specs.declared.ascii_str.AsciiStr.{AsciiStr}
use Rattle.ascii_formats.specs.declared.numbers.NumberError.{NumberError}
use Rattle.ascii_run.specs.declared.commands.Cmd.{Cmd}
use Rattle.ascii_run.specs.declared.commands.Cmd.TheVariants.{PushStr, InsertStr, Remove, Pop}
use Rattle.ascii_run.specs.declared.commands.Cmd.TheVariants.{Truncate, Upper, Lower}
use Rattle.ascii_show.specs.Words.{AreDigitsOf, IsInsertion, IsWord, IsWordOf}

has_some : (text : List ℕ) → text ≢ [] → 0 < length text
has_some [] none = absurd (none refl)
has_some (code ∷ codes) some = omega arith

digits_ascii : (digits : List ℕ) → AllDigits 10 digits → IsAscii digits
digits_ascii [] all = IsAscii-nil
digits_ascii (digit ∷ digits) all =
    IsAscii-cons digit digits (omega (arith, digit_from_value digit all.0))
    (digits_ascii digits all.1)

-- digits are read as the number that they write, and nothing else is read
pub number_read : (most : ℕ) (text : List ℕ) (result : Result ℕ NumberError)
    → most + 1 ≡ 2 ^ 64
    → MatchResult result (WritesNumber most text) (IsNumberFault most text)
    → MatchOption (result_ok result) (¬ ((n : ℕ) × AreDigitsOf text n)) (AreDigitsOf text)
number_read most text (Ok n) all writes = (
  (has_some text writes.some, writes.number.0),
  sym writes.value,
  omega (arith, writes.number.1, writes.value, all),
)
number_read most text (Err e) all fault =
    λ of. no_fault most text e of.1.0 (omega (arith, of.1.1, of.1.2, all)) fault

-- a word that stands for a command is ASCII
word_ascii : (word : List ℕ) (cmd : Cmd) → IsWordOf word cmd → IsAscii word
word_ascii word (PushStr view) of =
    subst IsAscii (sym of.0) (IsAscii-cons 112 (text_of view) (omega arith) of.1)
word_ascii word (InsertStr n view) of =
    let digits = digits_ascii of.0 of.2.0.1 in
    let text = IsAscii-cons 58 (text_of view) (omega arith) of.3 in
    let rest = IsAscii-append of.0 (58 ∷ text_of view) digits text in
    subst IsAscii (sym of.1) (IsAscii-cons 105 (of.0 ++ 58 ∷ text_of view) (omega arith) rest)
word_ascii word (Remove n) of = subst IsAscii (sym of.1)
    (IsAscii-cons 114 of.0 (omega arith) (digits_ascii of.0 of.2.0.1))
word_ascii word (Truncate n) of =
    subst IsAscii (sym of.1) (IsAscii-cons 116 of.0 (omega arith) (digits_ascii of.0 of.2.0.1))
word_ascii word Pop of = subst IsAscii (sym of) (IsAscii-cons 111 [] (omega arith) IsAscii-nil)
word_ascii word Upper of = subst IsAscii (sym of) (IsAscii-cons 117 [] (omega arith) IsAscii-nil)
word_ascii word Lower of = subst IsAscii (sym of) (IsAscii-cons 108 [] (omega arith) IsAscii-nil)
word_ascii word other of = absurd of

pub no_other_word : (word : List ℕ) (i : ℕ) → 128 ≤ get_or word i 0 → ¬ (IsWord word)
no_other_word word i other is = omega (arith, other, word_ascii word is.0 is.1 i)

-- a word that begins with `i` is an insertion
pub only_insertion : (rest : List ℕ) (cmd : Cmd) → IsWordOf (105 ∷ rest) cmd
    → (n : ℕ) × (view : AsciiStr) × (cmd ≡ InsertStr n view) × IsInsertion rest n view
only_insertion rest (PushStr view) of = absurd (omega (arith, ap (λ word. get_or word 0 0) of.0))
only_insertion rest (InsertStr n view) of =
    (n, view, refl, (of.0, ap (drop 1) of.1, of.2, of.3))
only_insertion rest (Remove n) of = absurd (omega (arith, ap (λ word. get_or word 0 0) of.1))
only_insertion rest (Truncate n) of = absurd (omega (arith, ap (λ word. get_or word 0 0) of.1))
only_insertion rest Pop of = absurd (omega (arith, ap (λ word. get_or word 0 0) of))
only_insertion rest Upper of = absurd (omega (arith, ap (λ word. get_or word 0 0) of))
only_insertion rest Lower of = absurd (omega (arith, ap (λ word. get_or word 0 0) of))
only_insertion rest other of = absurd of

-- what comes after the `i` determines the argument
pub insertion_word : (rest : List ℕ) (result : Option Cmd)
    → MatchOption result (¬ ((n : ℕ) × (view : AsciiStr) × IsInsertion rest n view))
    (λ cmd. (n : ℕ) × (view : AsciiStr) × (cmd ≡ InsertStr n view) × IsInsertion rest n view)
    → MatchOption result (¬ (IsWord (105 ∷ rest))) (IsWordOf (105 ∷ rest))
insertion_word rest None none = λ is. let of = only_insertion rest is.0 is.1 in
    none (of.0, of.1, of.3)
insertion_word rest (Some cmd) of = subst (IsWordOf (105 ∷ rest)) (sym of.2)
    (of.3.0, ap (λ word. 105 ∷ word) of.3.1, of.3.2, of.3.3)
