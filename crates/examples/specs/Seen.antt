-- The lines of paragraphs, each once.
use Rattle.std.specs.List.{list_any}
use Rattle.std.specs.Prelude.{◌≡◌, ◌||◌, ◌&&◌, ℕ, Bool, List, [], ◌∷◌, ◌++◌, cond, false, not, true}
use Rattle.std.specs.Set.{is_member}
use Rattle.std.specs.Str.{bytes_eq}

-- whether a line has no code
abbrev pub is_blank : List ℕ → Bool
is_blank [] = true
is_blank (code ∷ line) = false

-- the lines of `lines` from the last empty one on, or all of them if none is empty
abbrev pub last_paragraph : List (List ℕ) → List (List ℕ)
last_paragraph [] = []
last_paragraph (line ∷ lines) =
    cond (list_any is_blank lines) (last_paragraph lines) (line ∷ lines)

-- whether `line` is empty or not one of `lines`
abbrev pub is_new : List (List ℕ) → List ℕ → Bool
is_new lines line = is_blank line || not (is_member bytes_eq lines line)

-- of `lines`, which come after the lines `before`, each once in its paragraph, where it comes first
abbrev pub firsts : List (List ℕ) → List (List ℕ) → List (List ℕ)
firsts before [] = []
firsts before (line ∷ lines) = cond (is_new (last_paragraph before) line) (line ∷ []) []
    ++ firsts (before ++ line ∷ []) lines

-- what is printed of a line: the line, and LF
abbrev pub seen_line : List ℕ → List ℕ
seen_line line = line ++ 10 ∷ []

-- `new` has `line` and, unless that is empty, what `old` has, and no other text
abbrev pub Gains : List (List ℕ) → List ℕ → List (List ℕ) → Type 0
Gains old line new = (text : List ℕ) → is_member bytes_eq new text
    ≡ (bytes_eq line text || (not (is_blank line) && is_member bytes_eq old text))
