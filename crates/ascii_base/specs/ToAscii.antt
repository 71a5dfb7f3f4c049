-- Integers that may be the code of a character.
use Rattle.std.specs.Prelude.{◌⊎◌, ◌≡◌, ℕ, List, ℤ, pos, ◌<ℤ◌, ◌≤ℤ◌, codes}
use Rattle.ascii_base.specs.Code.{code_of}
use Rattle.ascii_base.specs.declared.ascii_char.AsciiChar.{AsciiChar}

-- `z` is the code of the character
abbrev pub HasCode : ℤ → AsciiChar → Type 0
HasCode z ch = pos (code_of ch) ≡ z

-- `z` is a code: 0 to 127
abbrev pub IsCode : ℤ → Type 0
IsCode z = (pos 0 ≤ℤ z) × (z ≤ℤ pos 127)

-- `z` is not a code: it is less than 0 or greater than 127
abbrev pub IsNotAscii : ℤ → Type 0
IsNotAscii z = (z <ℤ pos 0) ⊎ (pos 127 <ℤ z)

-- the output of the error for a number that is not a code
abbrev pub not_ascii_text : List ℕ
not_ascii_text = codes "not an ASCII character"
