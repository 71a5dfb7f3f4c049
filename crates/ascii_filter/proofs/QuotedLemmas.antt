-- How a shell reads the pieces of a quoted name.
use Rattle.std.proofs.Common.{◌≡◌, ◌≢◌, ◌≤◌, ℕ, List, [], ◌∷◌, ◌++◌}
use Rattle.std.proofs.Common.{Bool, true, false, if◌then◌else◌, ◌||◌, arith, ap, sym, subst}
use Rattle.std.proofs.Common.{refl, ◌∙◌, append_assoc, append-nil, length, take, take_all}
use Rattle.std.proofs.lemmas.Bool.{ne_eqb}
use Rattle.std.proofs.lemmas.List.Elements.{All-append, All-cons, All-head, All-nil, All-tail}
use Rattle.std.specs.List.{All}
use Rattle.std.specs.Prelude.{codes}
use Rattle.ascii.specs.Class.{IsPrintable}
use Rattle.ascii_filter.specs.Quoted.{Adds, IsBare, IsDoubled, Reading, bytes_given}
use Rattle.ascii_filter.specs.Quoted.{next_reading, reading_after, reading_of, word_from}
use Rattle.ascii_filter.specs.Quoted.{after_backslash, after_dollar, bare, double}
use Rattle.ascii_filter.specs.Quoted.{single}

-- ---- one text after another

pub word_from-append : (r : Reading) (xs ys : List ℕ)
    → word_from r (xs ++ ys) ≡ word_from r xs ++ word_from (reading_after r xs) ys
word_from-append r [] ys = refl
word_from-append r (x ∷ xs) ys =
    ap (λ more. bytes_given r x ++ more) (word_from-append (next_reading r x) xs ys)
    ∙ sym (append_assoc (bytes_given r x) (word_from (next_reading r x) xs)
    (word_from (reading_after (next_reading r x) xs) ys))

pub reading_after-append : (r : Reading) (xs ys : List ℕ)
    → reading_after r (xs ++ ys) ≡ reading_after (reading_after r xs) ys
reading_after-append r [] ys = refl
reading_after-append r (x ∷ xs) ys = reading_after-append (next_reading r x) xs ys

-- ---- pieces

-- a text of printable characters gives the bytes, and leads from one reading to another
pub record Piece (before : Reading) (text bytes : List ℕ) (after : Reading) : Type 0 where
  pub printable : All IsPrintable text
  pub word : word_from before text ≡ bytes
  pub reading : reading_after before text ≡ after

pub Piece-then : (p q r : Reading) (xs ys bytes more : List ℕ)
    → Piece p xs bytes q → Piece q ys more r → Piece p (xs ++ ys) (bytes ++ more) r
Piece-then p q r xs ys bytes more one two = record {
  printable = All-append IsPrintable xs ys one.printable two.printable;
  word = word_from-append p xs ys
      ∙ (λ k. one.word k ++ word_from (one.reading k) ys)
      ∙ ap (λ zs. bytes ++ zs) two.word;
  reading = reading_after-append p xs ys
      ∙ (ap (λ s. reading_after s ys) one.reading ∙ two.reading);
}

-- printable characters, one by one
pub printed : (x : ℕ) (xs : List ℕ) → 32 ≤ x → x ≤ 126 → All IsPrintable xs
    → All IsPrintable (x ∷ xs)
printed x xs low high others = All-cons IsPrintable x xs (low, high) others

none : All IsPrintable []
none = All-nil IsPrintable

one_quote : All IsPrintable (39 ∷ [])
one_quote = printed 39 [] (omega arith) (omega arith) none

-- the end of the quotes
pub end_piece : (b : Bool) → Piece (reading_of b) (codes "'") [] bare
end_piece true = record { printable = one_quote; word = refl; reading = refl }
end_piece false = record { printable = one_quote; word = refl; reading = refl }

-- one more byte of a name
pub piece_more : (items new bytes : List ℕ) (q r : Reading) (x : ℕ)
    → Piece bare items bytes q → Adds items new q x r
    → Piece bare new (bytes ++ x ∷ []) r
piece_more items new bytes q r x so_far (token, same, printable, word, reading) =
    subst (λ text. Piece bare text (bytes ++ x ∷ []) r) (sym same)
    (Piece-then bare q r items token bytes (x ∷ []) so_far
    (record { printable = printable; word = word; reading = reading }))

-- all bytes of a name, and the end of the quotes
pub ended : (items new name : List ℕ) (n : ℕ) (b : Bool) → length name ≤ n
    → new ≡ items ++ codes "'" → Piece bare items (take n name) (reading_of b)
    → Piece bare new name bare
ended items new name n b all is so_far =
    let bytes : take n name ++ [] ≡ name = append-nil (take n name) ∙ take_all n name all in
    subst (λ text. Piece bare text name bare) (sym is)
    (subst (λ word. Piece bare (items ++ codes "'") word bare) bytes
    (Piece-then bare (reading_of b) bare items (codes "'") (take n name) [] so_far (end_piece b)))

-- ---- names without escapes

bare_print : (x : ℕ) → IsBare x → IsPrintable x
bare_print x is = grind arith

bare_byte : (x : ℕ) → IsBare x → (x ≢ 39) × (x ≢ 34) × (x ≢ 92) × (x ≢ 36)
bare_byte x is = (grind arith, grind arith, grind arith, grind arith)

doubled_print : (x : ℕ) → IsDoubled x → IsPrintable x
doubled_print x is = grind arith

doubled_byte : (x : ℕ) → IsDoubled x → x ≢ 34
doubled_byte x is = grind arith

bare_one : (x : ℕ) → IsBare x
    → (bytes_given bare x ≡ x ∷ []) × (next_reading bare x ≡ bare)
bare_one x is =
    let (a, b, c, d) = bare_byte x is in (
      (λ k. if ne_eqb x 39 a k || (ne_eqb x 34 b k || (ne_eqb x 92 c k || ne_eqb x 36 d k))
          then [] else x ∷ []),
      (λ k. if ne_eqb x 39 a k then single else if ne_eqb x 34 b k then double
          else if ne_eqb x 92 c k then after_backslash
          else if ne_eqb x 36 d k then after_dollar else bare),
    )

pub bare_piece : (xs : List ℕ) → All IsBare xs → Piece bare xs xs bare
bare_piece xs all = record {
  printable = λ k d inside. bare_print _ (all k d inside);
  word = word xs all;
  reading = reading xs all;
}
  where
    word : (xs : List ℕ) → All IsBare xs → word_from bare xs ≡ xs
    word [] all = refl
    word (x ∷ xs) all =
        let one = bare_one x (All-head IsBare x xs all) in
        (λ k. one.0 k ++ word_from (one.1 k) xs)
        ∙ ap (λ zs. x ∷ zs) (word xs (All-tail IsBare x xs all))

    reading : (xs : List ℕ) → All IsBare xs → reading_after bare xs ≡ bare
    reading [] all = refl
    reading (x ∷ xs) all =
        ap (λ r. reading_after r xs) (bare_one x (All-head IsBare x xs all)).1
        ∙ reading xs (All-tail IsBare x xs all)

doubled_piece : (xs : List ℕ) → All IsDoubled xs → Piece double xs xs double
doubled_piece xs all = record {
  printable = λ k d inside. doubled_print _ (all k d inside);
  word = word xs all;
  reading = reading xs all;
}
  where
    word : (xs : List ℕ) → All IsDoubled xs → word_from double xs ≡ xs
    word [] all = refl
    word (x ∷ xs) all =
        let no = ne_eqb x 34 (doubled_byte x (All-head IsDoubled x xs all)) in
        (λ k. (if no k then [] else x ∷ [])
        ++ word_from (if no k then bare else double) xs)
        ∙ ap (λ zs. x ∷ zs) (word xs (All-tail IsDoubled x xs all))

    reading : (xs : List ℕ) → All IsDoubled xs → reading_after double xs ≡ double
    reading [] all = refl
    reading (x ∷ xs) all =
        let no = ne_eqb x 34 (doubled_byte x (All-head IsDoubled x xs all)) in
        (λ k. reading_after (if no k then bare else double) xs)
        ∙ reading xs (All-tail IsDoubled x xs all)

double_quote : (p q : Reading) → (word_from p (34 ∷ []) ≡ []) → (reading_after p (34 ∷ []) ≡ q)
    → Piece p (34 ∷ []) [] q
double_quote p q word reading = record {
  printable = printed 34 [] (omega arith) (omega arith) none;
  word = word;
  reading = reading;
}

-- a name between double quotes
pub between_piece : (xs : List ℕ) → All IsDoubled xs
    → Piece bare (codes "\"" ++ (xs ++ codes "\"")) xs bare
between_piece xs all =
    let inner =
    Piece-then double double bare xs (34 ∷ []) xs [] (doubled_piece xs all)
    (double_quote double bare refl refl) in
    let whole =
    Piece-then bare double bare (34 ∷ []) (xs ++ 34 ∷ []) [] (xs ++ [])
    (double_quote bare double refl refl) inner in
    subst (λ bytes. Piece bare (codes "\"" ++ (xs ++ codes "\"")) bytes bare)
    (append-nil xs) whole
