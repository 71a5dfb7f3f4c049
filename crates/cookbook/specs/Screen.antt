-- What a screen with a number of columns shows of a text.
use Rattle.std.specs.Prelude.{◌≡◌, ◌≢◌, ℕ, ◌+◌, ◌-◌, ◌%◌, ◌≤◌, List, [], ◌∷◌, ◌++◌, ◌==◌}
use Rattle.std.specs.Prelude.{if◌then◌else◌, nat_le, codes, length, min, take}
use Rattle.std.specs.List.{All}
use Rattle.ascii.specs.Notations.{caret_text}
use Rattle.ascii_run.specs.Modes.Caret.{IsShown}

-- the output for a code that is not LF, if it has room at `column`: for a tab, spaces up to the
-- next column that 8 divides or to the edge of the screen; otherwise its caret form
abbrev pub cell_text : ℕ → ℕ → ℕ → List ℕ
cell_text width column code =
    if code == 9 then take (min (8 - column % 8) (width - column)) (codes "        ")
    else caret_text code

-- the output for a code at `column`: for LF, itself; otherwise its cell, on a new line if it has no
-- room on this one
abbrev pub char_on_screen : ℕ → ℕ → ℕ → List ℕ
char_on_screen width column code =
    if code == 10 then codes "\n"
    else (if nat_le (column + length (cell_text width column code)) width
    then cell_text width column code
    else codes "\n" ++ cell_text width 0 code)

-- the column after output that starts at `column`: 0 after LF, one more after each other code
abbrev pub column_after : ℕ → List ℕ → ℕ
column_after column [] = column
column_after column (code ∷ codes) =
    if code == 10 then column_after 0 codes else column_after (column + 1) codes

-- the output for a text that starts at `column`: the outputs for its codes, each at the column that
-- the output before it ends at
abbrev pub screen_text : ℕ → ℕ → List ℕ → List ℕ
screen_text width column [] = []
screen_text width column (code ∷ codes) = char_on_screen width column code
    ++ screen_text width (column_after column (char_on_screen width column code)) codes

-- every part of `out` with no LF in it has at most `width` codes
abbrev pub IsNoWider : ℕ → List ℕ → Type 0
IsNoWider width out = (before part after : List ℕ) → before ++ (part ++ after) ≡ out
    → All (λ code. code ≢ 10) part → length part ≤ width

-- a text that a screen with `width` columns shows unchanged: it has no control code but LF, and no
-- line of more than `width` codes
abbrev pub IsPlain : ℕ → List ℕ → Type 0
IsPlain width text = All IsShown text × IsNoWider width text
