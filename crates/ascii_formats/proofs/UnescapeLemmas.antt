-- Pieces of an escaped text: one more of them at the end, that a text is read in one way only, and
-- that what `escape_ascii` writes is read back.
use Rattle.std.proofs.Common.{◌≡◌, ℕ, ◌+◌, ◌<◌, ◌⊎◌, List, [], ◌∷◌, ◌++◌, length, take, drop}
use Rattle.std.proofs.Common.{take-add, refl, sym, ap, ◌∙◌, append_assoc, append-nil, arith, inl}
use Rattle.std.proofs.Common.{inr, ap₂, length-append, length-drop, take-append-drop}
use Rattle.std.proofs.lemmas.Bool.Decides.{nat_tests}
use Rattle.std.specs.Char.Escape.{backslash, escape_ascii, hex_digit_at, short_escape}
use Rattle.std.specs.List.{AllZip, concat, flat_map}
use Rattle.std.specs.Prelude.{◌≤◌, Err, MatchResult, Ok, Result, slice_index}
use Rattle.std.proofs.Math.Seq.{drop-append_seam}
use Rattle.std.proofs.lemmas.Bool.{cases_lt}
use Rattle.std.proofs.lemmas.Str.{IsAscii-drop}
use Rattle.std.specs.Str.{IsAscii}
use Rattle.ascii_formats.specs.declared.unescape.UnescapeError.{UnescapeError}
use Rattle.ascii_formats.specs.declared.unescape.UnescapeError.TheVariants.{Invalid, Memory}
use Rattle.ascii_formats.specs.declared.unescape.UnescapeError.TheVariants.{NotAscii}
use Rattle.ascii_formats.specs.Unescape.{HasNoPiece, IsHexEscapeOf, IsUnescapeFault, StandsFor}
use Rattle.ascii_formats.specs.Unescape.{Unescapes}

concat_more : (pieces : List (List ℕ)) (piece : List ℕ)
    → concat (pieces ++ piece ∷ []) ≡ concat pieces ++ piece
concat_more [] piece = append-nil piece
concat_more (first ∷ pieces) piece = grind (arith, append_assoc, concat_more pieces piece)

zip_more : (pieces : List (List ℕ)) (codes : List ℕ) (piece : List ℕ) (code : ℕ)
    → AllZip StandsFor pieces codes → StandsFor piece code
    → AllZip StandsFor (pieces ++ piece ∷ []) (codes ++ code ∷ [])
zip_more [] [] piece code stand is = (is, tt)
zip_more [] (n ∷ codes) piece code stand is = absurd stand
zip_more (first ∷ pieces) [] piece code stand is = absurd stand
zip_more (first ∷ pieces) (n ∷ codes) piece code stand is =
    (stand.0, zip_more pieces codes piece code stand.1 is)

-- one more piece stands for one more code
pub unescapes_more : (text codes : List ℕ) (at size code : ℕ) → Unescapes (take at text) codes
    → StandsFor (take size (drop at text)) code
    → Unescapes (take (at + size) text) (codes ++ code ∷ [])
unescapes_more text codes at size code (pieces, joined, stand) is =
    let piece = take size (drop at text) in (
      pieces ++ piece ∷ [],
      concat_more pieces piece ∙ ap (λ l. l ++ piece) joined ∙ sym (take-add at size text),
      zip_more pieces codes piece code stand is,
    )

-- ---- a text is read in one way only

short_once : (m n : ℕ) → 0 < short_escape m → short_escape m ≡ short_escape n → m ≡ n
short_once m n some same = grind (arith, nat_tests)

not_x : (n : ℕ) → ¬ (short_escape n ≡ 120)
not_x n same = grind (arith, nat_tests)

-- two pieces at the start of one text stand for the same code, and the same text comes after them
first_same : (p q x y : List ℕ) (m n : ℕ) → StandsFor p m → StandsFor q n → p ++ x ≡ q ++ y
    → (m ≡ n) × (x ≡ y)
first_same p q x y m n is given same = grind (arith, short_once, not_x, ap₂)

-- what the codes of a text go on with after those of its start
reads_on : (ps qs : List (List ℕ)) (ms ns tail : List ℕ) → AllZip StandsFor ps ms
    → AllZip StandsFor qs ns → concat ps ++ tail ≡ concat qs
    → (more : List ℕ) × Unescapes tail more × (ns ≡ ms ++ more)
reads_on [] qs [] ns tail starts all joined = (ns, (qs, sym joined, all), refl)
reads_on [] qs (m ∷ ms) ns tail starts all joined = absurd starts
reads_on (p ∷ ps) qs [] ns tail starts all joined = absurd starts
reads_on (p ∷ ps) [] (m ∷ ms) ns tail starts all joined = grind (arith, length-append)
reads_on (p ∷ ps) (q ∷ qs) (m ∷ ms) [] tail starts all joined = absurd all
reads_on (p ∷ ps) (q ∷ qs) (m ∷ ms) (n ∷ ns) tail starts all joined =
    let same = first_same p q (concat ps ++ tail) (concat qs) m n starts.0 all.0
    (sym (append_assoc p (concat ps) tail) ∙ joined) in
    grind (arith, ap₂, reads_on ps qs ms ns tail starts.1 all.1 same.1)

nothing_more : (more : List ℕ) → Unescapes [] more → more ≡ []
nothing_more [] all = refl
nothing_more (n ∷ more) ([], joined, all) = absurd all
nothing_more (n ∷ more) (q ∷ qs, joined, all) = grind (arith, length-append)

-- a text is read in one way only
pub unescapes_once : (text ms ns : List ℕ) → Unescapes text ms → Unescapes text ns → ms ≡ ns
unescapes_once text ms ns (ps, first, starts) (qs, second, all) =
    let left = reads_on ps qs ms ns [] starts all (append-nil (concat ps) ∙ first ∙ sym second) in
    sym (left.2 ∙ ap (λ l. ms ++ l) (nothing_more left.0 left.1) ∙ append-nil ms)

-- what is left of a text that is read is read
left_read : (text ms ns : List ℕ) (p : ℕ) → Unescapes (take p text) ms → Unescapes text ns
    → (more : List ℕ) × Unescapes (drop p text) more × (ns ≡ ms ++ more)
left_read text ms ns p is given = grind (arith, reads_on, take-append-drop p text)

-- a text that is read has no piece that stands for no code
has_piece : (rest more : List ℕ) → 0 < length rest → Unescapes rest more → ¬ (HasNoPiece rest)
has_piece rest more some ([], joined, all) none = omega (arith, some, ap length joined)
has_piece rest [] some (q ∷ qs, joined, all) none = absurd all
has_piece rest (n ∷ more) some (q ∷ qs, joined, all) none = none q (concat qs) n joined all.0

-- the first piece of a text that is read stands for the first code that is read
first_code : (rest more : List ℕ) (size code : ℕ) → 0 < length rest → Unescapes rest more
    → StandsFor (take size rest) code → code ≡ slice_index more 0
first_code rest more size code some ([], joined, all) is = grind arith
first_code rest [] size code some (q ∷ qs, joined, all) is = absurd all
first_code rest (n ∷ more) size code some (q ∷ qs, joined, all) is =
    (first_same (take size rest) q (drop size rest) (concat qs) code n is all.0
    (take-append-drop size rest ∙ sym joined)).0

-- a text that stands for ASCII codes has no fault
no_fault : (text ns : List ℕ) (e : UnescapeError) → IsAscii ns → Unescapes text ns
    → IsUnescapeFault text e → e ≡ Memory
no_fault text ns (Invalid p) ascii all ((inside, (ms, before)), none) =
    let left = left_read text ms ns p before all in
    absurd (has_piece (drop p text) left.0 (omega (arith, inside, length-drop p text)) left.1 none)
no_fault text ns (NotAscii p) ascii all ((inside, (ms, before)), (size, code, is, high)) =
    let left = left_read text ms ns p before all in
    let more = left.0 in
    let some : 0 < length (drop p text) = omega (arith, inside, length-drop p text) in
    let same = first_code (drop p text) more size code some left.1 is in
    let end : drop (length ms) ns ≡ more = ap (drop (length ms)) left.2 ∙ drop-append_seam ms more in
    grind (arith, IsAscii-drop)
no_fault text ns Memory ascii all fault = refl

-- ---- what `escape_ascii` writes

hex_stands : (n : ℕ) → n < 128
    → IsHexEscapeOf (backslash ∷ 120 ∷ hex_digit_at 16 n ∷ hex_digit_at 1 n ∷ []) n
hex_stands n low = grind (arith, nat_tests)

stands_by : (n : ℕ) → n < 128 → (0 < short_escape n) ⊎ (short_escape n ≤ 0)
    → (n < 32) ⊎ (32 ≤ n) → (n < 127) ⊎ (127 ≤ n) → StandsFor (escape_ascii n) n
stands_by n ascii (inl some) low delete = inr (inl (grind (arith, nat_tests), some))
stands_by n ascii (inr none) (inl low) delete = grind (arith, nat_tests, hex_stands n ascii)
stands_by n ascii (inr none) (inr high) (inl other) =
    inl (grind (arith, nat_tests), grind (arith, nat_tests))
stands_by n ascii (inr none) (inr high) (inr delete) = grind (arith, nat_tests, hex_stands n ascii)

-- what `escape_ascii` writes stands for the text
escaped_stands : (text : List ℕ) → IsAscii text → Unescapes (flat_map escape_ascii text) text
escaped_stands [] ascii = ([], refl, tt)
escaped_stands (n ∷ text) ascii =
    let others = escaped_stands text (IsAscii-drop (n ∷ text) 1 ascii) in (
      escape_ascii n ∷ others.0,
      ap (λ l. escape_ascii n ++ l) others.1,
      (stands_by n (ascii 0) (cases_lt 0 (short_escape n)) (cases_lt n 32) (cases_lt n 127), others.2),
    )

-- what `escape_ascii` writes is read back, if there is memory
pub escaped_comes_back : {A : Type 0} (view : A → List ℕ) (text escaped : List ℕ)
    (result : Result A UnescapeError) → IsAscii text → escaped ≡ flat_map escape_ascii text
    → MatchResult result (λ string. Unescapes escaped (view string)) (IsUnescapeFault escaped)
    → MatchResult result (λ string. view string ≡ text) (λ e. e ≡ Memory)
escaped_comes_back view text escaped (Ok string) ascii is read =
    unescapes_once (flat_map escape_ascii text) (view string) text (rw is at read)
    (escaped_stands text ascii)
escaped_comes_back view text escaped (Err e) ascii is fault =
    no_fault (flat_map escape_ascii text) text e ascii (escaped_stands text ascii) (rw is at fault)
