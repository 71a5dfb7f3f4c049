-- The modes that go by lines, of which `Lines` and `Tac` write the body of each line and LF.
use Rattle.std.specs.Prelude.{◌≡◌, ℕ, List, ◌++◌, codes}
use Rattle.ascii.specs.Lines.{Line, LinesOf}

-- `output` is what `shown` makes of the lines of the text
abbrev pub ShowsLines : (List Line → List ℕ) → List ℕ → List ℕ → Type 0
ShowsLines shown text output = (lines : List Line) × LinesOf text lines × (output ≡ shown lines)

-- a line's body, and LF
abbrev pub with_line_feed : List ℕ → List ℕ
with_line_feed body = body ++ codes "\n"
