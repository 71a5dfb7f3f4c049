-- What the notations write for a character. `escape_ascii` is std's word for its escapes of a code.
use Rattle.std.specs.Prelude.{ℕ, ◌+◌, List, [], ◌∷◌, ◌++◌}
use Rattle.std.specs.Prelude.{if◌then◌else◌, nat_lt, ◌==◌, codes}

-- what caret notation writes for the code `n`: for a control character other than LF, `^` and its
-- caret letter; otherwise the code itself
abbrev pub caret_text : ℕ → List ℕ
caret_text n =
    if n == 10 then n ∷ []
    else (if nat_lt n 32 then codes "^" ++ (n + 64) ∷ []
    else (if n == 127 then codes "^?" else n ∷ []))
