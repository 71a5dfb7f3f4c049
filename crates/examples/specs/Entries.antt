-- The lines of a settings file, and the entries that they say.
use Rattle.std.specs.Prelude.{◌≡◌, ◌≢◌, ◌⊎◌, ℕ, List, [], ◌∷◌, ◌++◌, ⊤, Err, MatchResult, Ok, codes}
use Rattle.std.specs.Prelude.{◌+◌, length, map}
use Rattle.std.specs.List.{All, AllZip, Contains, fold}
use Rattle.std.specs.declared.alloc.Global.{Global}
use Rattle.std.specs.declared.result.Result.{Result}
use Rattle.std.specs.declared.vec.Vec.{Vec}
use Rattle.ascii.specs.ByClass.{IsOutside}
use Rattle.ascii.specs.Class.{IsWhitespace}
use Rattle.ascii.specs.Parts.{WithStart}
use Rattle.ascii.specs.Search.{IsCutAt, IsPrefix, StartsWith}
use Rattle.ascii.specs.View.{text_of}
use Rattle.ascii.specs.declared.ascii_str.AsciiStr.{AsciiStr}
use Rattle.ascii_formats.specs.Parts.{AreLinesOf, AreSidesOf, IsCutBy, IsTrimmed, in_whole}
use Rattle.ascii_formats.specs.Parts.{part_text}
use Rattle.ascii_formats.specs.declared.parts.Part.{Part}
use Rattle.examples.specs.declared.ini.IniError.{IniError}
use Rattle.examples.specs.declared.ini.IniError.TheVariants.{At, Memory}
use Rattle.examples.specs.declared.ini.What.TheVariants.{NoDelimiter, NoKey, OpenSection}
use Rattle.examples.specs.declared.ini.Entry.{Entry}
use Rattle.examples.specs.declared.ini.Parsed.{Parsed}
use Rattle.examples.specs.declared.ini.Parsed.TheVariants.{Blank, Section, Setting}

-- each part of the entry is a part of `text`
pub record IsEntryOf (text : AsciiStr) (entry : Entry) : Type 0 where
  pub section : entry.section.whole ≡ text
  pub key : entry.key.whole ≡ text
  pub value : entry.value.whole ≡ text

-- the parts of a line are parts of `text`
abbrev pub ArePartsOf : AsciiStr → Parsed → Type 0
ArePartsOf text Blank = ⊤
ArePartsOf text (Section name) = name.whole ≡ text
ArePartsOf text (Setting key value) = (key.whole ≡ text) × (value.whole ≡ text)

-- what is at fault is a part of `text`
abbrev pub IsErrorIn : AsciiStr → IniError → Type 0
IsErrorIn text (At part what) = part.whole ≡ text
IsErrorIn text Memory = ⊤

-- ---- one line

-- the code may be between a key and its value: it is `=` or `:`
abbrev pub IsDelimiter : ℕ → Type 0
IsDelimiter code = (code ≡ 61) ⊎ (code ≡ 58)

-- `key` and `value` are the parts of `body` before and after its first `=` or `:`, without whitespace
-- at their ends
pub record HasSides (body key value : Part) : Type 0 where
  pub sides : Part × Part
  pub cut : IsCutBy IsDelimiter (part_text body) (part_text sides.0) (part_text sides.1)
  pub place : AreSidesOf 1 body sides
  pub trimmed_key : IsTrimmed IsWhitespace sides.0 key
  pub trimmed_value : IsTrimmed IsWhitespace sides.1 value

-- `body` is neither empty nor a comment nor the start of a section
pub record IsOther (body : List ℕ) : Type 0 where
  pub some : body ≢ []
  pub comment : ¬ (StartsWith (codes ";") body)
  pub section : ¬ (StartsWith (codes "[") body)

-- what `body` says, a line without whitespace at its ends. `Blank`: it is empty or begins with `;`.
-- `Section`: it is `[`, the name and `]`, and the name contains no `]`. `Setting`: the key is
-- before the first `=` or `:`, and not empty, and the value after it
abbrev pub Says : Part → Parsed → Type 0
Says body Blank = (part_text body ≡ []) ⊎ StartsWith (codes ";") (part_text body)
Says body (Section name) = (name.whole ≡ body.whole) × (name.start ≡ body.start + 1)
    × ((rest : List ℕ) × IsPrefix (codes "[") (part_text body) rest
    × IsCutAt 93 rest (part_text name) [])
Says body (Setting key value) =
    IsOther (part_text body) × HasSides body key value × (part_text key ≢ [])

-- why `body`, a line without whitespace at its ends, was rejected; it is the part at fault.
-- `OpenSection`: it begins with `[`, and its first `]` is not its last code, or it has none.
-- `NoDelimiter`: it contains neither `=` nor `:`. `NoKey`: it contains one, and before the first is
-- nothing but whitespace
abbrev pub IsFaultOf : Part → IniError → Type 0
IsFaultOf body (At part OpenSection) = (part ≡ body)
    × ((rest : List ℕ) × IsPrefix (codes "[") (part_text body) rest
    × (Contains rest 93 → (name : List ℕ) × (after : List ℕ) × IsCutAt 93 rest name after
    × (after ≢ [])))
IsFaultOf body (At part NoDelimiter) =
    (part ≡ body) × IsOther (part_text body) × IsOutside IsDelimiter (part_text body)
IsFaultOf body (At part NoKey) = (part ≡ body) × IsOther (part_text body)
    × ((key : Part) × (value : Part) × HasSides body key value × (part_text key ≡ []))
IsFaultOf body Memory = ⊥

-- `Ok`: what `line` says. `Err`: why it was rejected
abbrev pub ReadsLine : Part → Result Parsed IniError → Type 0
ReadsLine line result = (body : Part) × IsTrimmed IsWhitespace line body
    × MatchResult result (Says body) (IsFaultOf body)

-- ---- the lines of a text

-- `part` is the first `n` codes of `text`
pub record IsFront (text : AsciiStr) (n : ℕ) (part : Part) : Type 0 where
  pub whole : part.whole ≡ text
  pub start : part.start ≡ 0
  pub end : part.end ≡ n

-- the section and the entries after a line: a section is that of the entries after it, and a
-- setting is one entry more
abbrev pub after_line : Part × List Entry → Parsed → Part × List Entry
after_line before Blank = before
after_line before (Section name) = (name, before.1)
after_line before (Setting key value) =
    (before.0, before.1 ++ record { section = before.0; key = key; value = value } ∷ [])

-- `entries` are those of the lines of `all`: each is in the section that the last line before it
-- names, or in `none` if there is no such line
pub record AreEntries (all none : Part) (entries : List Entry) : Type 0 where
  pub lines : List Part
  pub cut : AreLinesOf all (map in_whole lines)
  pub parsed : List Parsed
  pub each : AllZip (λ line said. ReadsLine line (Ok said)) lines parsed
  pub are : (fold after_line (none, []) parsed).1 ≡ entries

-- `error` is that of a line of `all`, and no line before it has one
pub record IsFirstFault (all : Part) (error : IniError) : Type 0 where
  pub before : List Part
  pub line : Part
  pub after : List (AsciiStr × WithStart (List ℕ))
  pub cut : AreLinesOf all (map in_whole before ++ in_whole line ∷ after)
  pub right : All (λ line. (said : Parsed) × ReadsLine line (Ok said)) before
  pub fault : ReadsLine line (Err error)

-- `Ok`: the entries of `text`. `Err`: the error of its first line at fault, or `Memory`
abbrev pub ReadsEntries : AsciiStr → Result (Vec Entry Global) IniError → Type 0
ReadsEntries text result = (all : Part) × IsFront text (length (text_of text)) all
    × ((none : Part) × IsFront text 0 none
    × MatchResult result (λ entries. AreEntries all none entries.items)
    (λ error. (error ≡ Memory) ⊎ IsFirstFault all error))

-- ---- cited by private functions only

-- `error` is that of `line`, or `Memory`
abbrev pub IsLineError : Part → IniError → Type 0
IsLineError line error = (error ≡ Memory) ⊎ ReadsLine line (Err error)
