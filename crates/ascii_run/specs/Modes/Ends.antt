-- The modes `Ends` and `EndsSpans`: what one iterator of lines yields to a script of ends.
use Rattle.std.specs.Prelude.{ℕ, ◌-◌, List, [], ◌∷◌, ◌++◌, Option, Some, None, codes, decimal, drop}
use Rattle.std.specs.Prelude.{length, slice_get, take}
use Rattle.std.specs.Borrow.{Bor}
use Rattle.std.specs.Option.{option_map}
use Rattle.ascii.specs.Lines.{Line}
use Rattle.ascii.specs.Spans.{WithStart}
use Rattle.ascii.specs.declared.iter.spans.Ending.{Ending}
use Rattle.ascii.specs.declared.iter.spans.Ending.TheVariants.{Lf, CrLf, Absent}
use Rattle.ascii.specs.declared.iter.walks.End.{End}
use Rattle.ascii.specs.declared.iter.walks.End.TheVariants.{Front, Back}
use Rattle.ascii_run.specs.declared.modes.Mode.{Mode}
use Rattle.ascii_run.specs.declared.modes.Mode.TheVariants as mode
use Rattle.ascii_run.specs.declared.modes.ends.Shown.{Shown}
use Rattle.ascii_run.specs.declared.modes.ends.Shown.TheVariants.{Body, Span}

-- the answers of the list to the script: to `Front` its first item, to `Back` its last, which it
-- then has no more; `None` if it is empty
abbrev pub answers : {A : Type 0} → List End → List A → List (Option A)
answers [] items = []
answers (Front ∷ script) items = slice_get items 0 ∷ answers script (drop 1 items)
answers (Back ∷ script) items =
    slice_get items (length items - 1) ∷ answers script (take (length items - 1) items)

-- what is shown of an answer: `+`, the body and LF; for `None`, `-` and LF
abbrev pub answer_text : Option (List ℕ) → List ℕ
answer_text None = codes "-\n"
answer_text (Some body) = codes "+" ++ (body ++ codes "\n")

-- the word for an ending
abbrev pub ending_word : Ending → List ℕ
ending_word Lf = codes "lf"
ending_word CrLf = codes "crlf"
ending_word Absent = codes "none"

-- what is shown of an answer with its start: `+`, the start, the word for the ending and the body,
-- with spaces between them, and LF; for `None`, `-` and LF
abbrev pub span_text : Option (WithStart Line) → List ℕ
span_text None = codes "-\n"
span_text (Some span) =
    codes "+" ++ (decimal span.start ++ (codes " " ++ (ending_word span.item.ending
    ++ (codes " " ++ (span.item.body ++ codes "\n")))))

-- ---- cited by private functions only

-- the mode that shows this of each line that the ends of the script take
abbrev pub mode_of : Shown → Bor (List End) → Mode
mode_of Body script = mode.Ends script
mode_of Span script = mode.EndsSpans script

-- what is shown of an answer: of a line its body, or also its start and its ending
abbrev pub shown_text : Shown → Option (WithStart Line) → List ℕ
shown_text Body answer = answer_text (option_map (λ span. span.item.body) answer)
shown_text Span answer = span_text answer
