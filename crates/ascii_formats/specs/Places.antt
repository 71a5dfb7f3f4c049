-- The line and the column of a position in a text.
use Rattle.std.specs.Prelude.{ℕ, ◌+◌, List, [], ◌∷◌, ◌++◌, if◌then◌else◌, ◌==◌, take}
use Rattle.std.specs.Prelude.{codes, decimal, suc}
use Rattle.ascii_formats.specs.declared.places.Place.{Place}

-- the place after a byte: the start of the next line after LF, otherwise the next column
abbrev pub place_after_byte : Place → ℕ → Place
place_after_byte place byte =
    if byte == 10 then record { line = place.line + 1; column = 1 }
    else record { line = place.line; column = place.column + 1 }

-- the place after all of the bytes
abbrev pub place_after : Place → List ℕ → Place
place_after place [] = place
place_after place (byte ∷ bytes) = place_after (place_after_byte place byte) bytes

-- the place of the first byte of a text
abbrev pub start : Place
start = record { line = 1; column = 1 }

-- the place of the position `p` in a text: that after the bytes before it
abbrev pub place_at : List ℕ → ℕ → Place
place_at text p = place_after start (take p text)

-- the output of a place
abbrev pub place_text : Place → List ℕ
place_text place = decimal place.line ++ (codes ":" ++ decimal place.column)

-- ---- only private calls cite the following

-- the number of LF among the bytes
abbrev pub feeds : List ℕ → ℕ
feeds [] = 0
feeds (byte ∷ bytes) = if byte == 10 then suc (feeds bytes) else feeds bytes
