-- What the words after `ends` and after `edit` stand for.
use Rattle.std.specs.Prelude.{◌≡◌, ◌≢◌, ◌<◌, ◌^◌, ◌++◌, ℕ, List, codes, map}
use Rattle.std.specs.Str.{IsAscii}
use Rattle.std.specs.Str.Parse.{IsNumeral, digits_value}
use Rattle.ascii.specs.View.{text_of}
use Rattle.ascii.specs.declared.ascii_str.AsciiStr.{AsciiStr}
use Rattle.ascii.specs.declared.iter.walks.End.{End}
use Rattle.ascii.specs.declared.iter.walks.End.TheVariants.{Front, Back}
use Rattle.ascii_run.specs.declared.commands.Cmd.{Cmd}
use Rattle.ascii_run.specs.declared.commands.Cmd.TheVariants.{PushStr, InsertStr, Remove, Pop}
use Rattle.ascii_run.specs.declared.commands.Cmd.TheVariants.{Truncate, Upper, Lower}

-- the letter of an end: `F` or `B`
abbrev pub letter_of : End → ℕ
letter_of Front = 70
letter_of Back = 66

-- `digits` are one or more decimal digits with the value `n`, which fits a `usize`
abbrev pub AreDigitsOf : List ℕ → ℕ → Type 0
AreDigitsOf digits n = IsNumeral 10 digits × (digits_value 10 digits ≡ n) × (n < 2 ^ 64)

-- the word, which is one after `edit`, stands for the command
abbrev pub IsWordOf : List ℕ → Cmd → Type 0
IsWordOf word (PushStr view) = (word ≡ codes "p" ++ text_of view) × IsAscii (text_of view)
IsWordOf word (InsertStr n view) =
    (digits : List ℕ) × (word ≡ codes "i" ++ (digits ++ (codes ":" ++ text_of view)))
    × AreDigitsOf digits n × IsAscii (text_of view)
IsWordOf word (Remove n) =
    (digits : List ℕ) × (word ≡ codes "r" ++ digits) × AreDigitsOf digits n
IsWordOf word (Truncate n) =
    (digits : List ℕ) × (word ≡ codes "t" ++ digits) × AreDigitsOf digits n
IsWordOf word Pop = word ≡ codes "o"
IsWordOf word Upper = word ≡ codes "u"
IsWordOf word Lower = word ≡ codes "l"
IsWordOf word other = ⊥

-- the word stands for a command of an edit
abbrev pub IsWord : List ℕ → Type 0
IsWord word = (cmd : Cmd) × IsWordOf word cmd

-- the letters are those of ends, in order
abbrev pub IsScript : List ℕ → Type 0
IsScript letters = (ends : List End) × (map letter_of ends ≡ letters)

-- ---- cited by private functions only

-- the word is the digits of the position `n`, a colon and the text of `view`, which is ASCII
abbrev pub IsInsertion : List ℕ → ℕ → AsciiStr → Type 0
IsInsertion word n view =
    (digits : List ℕ) × (word ≡ digits ++ (codes ":" ++ text_of view))
    × AreDigitsOf digits n × IsAscii (text_of view)

-- the letter is not that of an end
abbrev pub IsNotEndLetter : ℕ → Type 0
IsNotEndLetter letter = (end : End) → letter_of end ≢ letter

-- the letters of `script` are those of the ends, in order
abbrev pub AreEndsOf : List ℕ → List End → Type 0
AreEndsOf script ends = map letter_of ends ≡ script
