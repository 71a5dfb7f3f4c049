-- The place that bytes lead to, by the number of LF and the last one.
use Rattle.std.proofs.Common.{◌++◌, ◌≡◌, ◌+◌, ◌-◌, ◌≤◌, ◌==◌, ℕ, Bool, false, List, [], ◌∷◌, length}
use Rattle.std.proofs.Common.{take, drop, arith, ap, sym, refl, ◌∙◌, take-append-drop, length-drop}
use Rattle.std.proofs.Common.{Some, None, if◌then◌else◌}
use Rattle.std.proofs.lemmas.List.Elements.{All-head, All-tail}
use Rattle.memchr.specs.Find.{IsLastByte, is_byte}
use Rattle.ascii.specs.Found.{HasNo}
use Rattle.ascii.proofs.SearchLemmas.{cut_at_last, free_of_last}
use Rattle.ascii_formats.specs.declared.places.Place.{Place}
use Rattle.ascii_formats.specs.Places.{feeds, place_after, place_after_byte}

-- the place after two parts
pub place_after-append : (place : Place) (xs ys : List ℕ)
    → place_after place (xs ++ ys) ≡ place_after (place_after place xs) ys
place_after-append place [] ys = refl
place_after-append place (x ∷ xs) ys = place_after-append (place_after_byte place x) xs ys

-- the line goes up by one for each LF
line_after : (p : Place) (xs : List ℕ) → (place_after p xs).line ≡ p.line + feeds xs
line_after p [] = omega arith
line_after p (x ∷ xs) = grind (arith, line_after (place_after_byte p x) xs)

-- the byte is not LF
abbrev IsOther : ℕ → Type 0
IsOther byte = (byte == 10) ≡ false

-- bytes without LF stay on their line
after_no_feed : (p : Place) (xs : List ℕ) → HasNo 10 xs
    → place_after p xs ≡ record { line = p.line; column = p.column + length xs }
after_no_feed p [] none = ap (λ c. record { line = p.line; column = c }) (omega arith)
after_no_feed p (x ∷ xs) none =
    ap (λ b. place_after (if b then record { line = p.line + 1; column = 1 }
    else record { line = p.line; column = p.column + 1 }) xs) (All-head IsOther x xs none)
    ∙ (after_no_feed (record { line = p.line; column = p.column + 1 }) xs
    (All-tail IsOther x xs none)
    ∙ ap (λ c. record { line = p.line; column = c }) (omega arith))

pub after_none : (p : Place) (xs : List ℕ) → IsLastByte (is_byte 10) xs None
    → place_after p xs ≡ record { line = p.line; column = p.column + length xs }
after_none p xs last = after_no_feed p xs (free_of_last 10 xs last)

pub after_last : (p : Place) (xs : List ℕ) (at : ℕ) → IsLastByte (is_byte 10) xs (Some at)
    → place_after p xs ≡ record { line = p.line + feeds xs; column = length xs - at }
after_last p xs at last =
    let cut = cut_at_last 10 xs at last in
    grind (arith, place_after-append, after_no_feed, line_after, length-drop)

room_of_byte : (p : Place) (x : ℕ) (b : Bool) → (x == 10) ≡ b → 1 ≤ p.column
    → (1 ≤ (place_after_byte p x).column)
    × ((place_after_byte p x).line + (place_after_byte p x).column ≤ p.line + p.column + 1)
room_of_byte p x b is some = grind arith

-- line and column together go up by at most one for each byte
pub room_after : (p : Place) (xs : List ℕ) → 1 ≤ p.column
    → (1 ≤ (place_after p xs).column)
    × ((place_after p xs).line + (place_after p xs).column ≤ p.line + p.column + length xs)
room_after p [] some = (some, omega arith)
room_after p (x ∷ xs) some =
    let one = room_of_byte p x (x == 10) refl some in
    grind (arith, room_after (place_after_byte p x) xs one.0)

-- the LF of two parts
pub feeds-append : (xs ys : List ℕ) → feeds (xs ++ ys) ≡ feeds xs + feeds ys
feeds-append [] ys = omega arith
feeds-append (x ∷ xs) ys = grind (arith, feeds-append xs ys)

pub feeds-cut : (n : ℕ) (xs : List ℕ) → feeds (take n xs) + feeds (drop n xs) ≡ feeds xs
feeds-cut n xs = sym (feeds-append (take n xs) (drop n xs)) ∙ ap feeds (take-append-drop n xs)
