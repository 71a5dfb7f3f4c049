-- The names of the modes.
use Rattle.std.specs.Prelude.{◌≡◌, ⊤, ℕ, List, codes}
use Rattle.ascii_run.specs.declared.bounded.BoundedMode.{BoundedMode}
use Rattle.ascii_run.specs.declared.bounded.BoundedMode.TheVariants as bounded
use Rattle.ascii_run.specs.declared.modes.Mode.{Mode}
use Rattle.ascii_run.specs.declared.modes.Mode.TheVariants as mode

-- the name of a mode in bounded memory
abbrev pub bounded_name : BoundedMode → List ℕ
bounded_name bounded.Copy = codes "copy"
bounded_name bounded.Lines = codes "lines"
bounded_name bounded.Caret = codes "caret"
bounded_name bounded.Json = codes "json"
bounded_name bounded.Upper = codes "upper"
bounded_name bounded.Lower = codes "lower"
bounded_name bounded.Escape = codes "escape"

-- the word is the name of a mode in bounded memory
abbrev pub IsBoundedName : List ℕ → Type 0
IsBoundedName word = (mode : BoundedMode) × (word ≡ bounded_name mode)

-- the name of a mode; one that both engines have has one name
abbrev pub mode_name : Mode → List ℕ
mode_name mode.Copy = bounded_name bounded.Copy
mode_name mode.Lines = bounded_name bounded.Lines
mode_name mode.Tac = codes "tac"
mode_name mode.Caret = bounded_name bounded.Caret
mode_name (mode.Ends script) = codes "ends"
mode_name (mode.EndsSpans script) = codes "ends"
mode_name (mode.Edit cmds) = codes "edit"
mode_name mode.Json = bounded_name bounded.Json

-- the mode takes neither a script nor commands
abbrev pub IsPlain : Mode → Type 0
IsPlain (mode.Ends script) = ⊥
IsPlain (mode.EndsSpans script) = ⊥
IsPlain (mode.Edit cmds) = ⊥
IsPlain other = ⊤

-- the word is the name of such a mode
abbrev pub IsPlainName : List ℕ → Type 0
IsPlainName word = (mode : Mode) × IsPlain mode × (word ≡ mode_name mode)
