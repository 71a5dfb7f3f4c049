-- What each mode makes of a text: a row for each mode in the table `IsOutput`. What a mode shows of
-- a code, a line or an answer is in the file of its name in `Modes/`.
pub mod Caret
pub mod Ends
pub mod Escape
pub mod Json
pub mod Lines
use Rattle.std.specs.Prelude.{◌≡◌, ℕ, List, None, Ok, Option, reverse}
use Rattle.std.specs.List.{flat_map}
use Rattle.std.specs.Result.{result_err}
use Rattle.ascii.specs.Lines.{bodies}
use Rattle.ascii.specs.Notations.{caret_text}
use Rattle.ascii.specs.Spans.{line_size, with_starts}
use Rattle.ascii_run.specs.declared.modes.Mode.{Mode}
use Rattle.ascii_run.specs.declared.modes.Mode.TheVariants as mode
use Rattle.ascii_run.specs.Edit.{edits}
use Rattle.ascii_run.specs.Modes.Ends.{answer_text, answers, span_text}
use Rattle.ascii_run.specs.Modes.Json.{json_text}
use Rattle.ascii_run.specs.Modes.Lines.{ShowsLines, with_line_feed}

-- `output` is the output of the mode for the text
abbrev pub IsOutput : Mode → List ℕ → List ℕ → Type 0
IsOutput mode.Copy text output = output ≡ text
IsOutput mode.Lines text output =
    ShowsLines (λ lines. flat_map with_line_feed (bodies lines)) text output
IsOutput mode.Tac text output =
    ShowsLines (λ lines. flat_map with_line_feed (reverse (bodies lines))) text output
IsOutput mode.Caret text output = output ≡ flat_map caret_text text
IsOutput (mode.Ends script) text output =
    ShowsLines (λ lines. flat_map answer_text (answers script.now (bodies lines))) text output
IsOutput (mode.EndsSpans script) text output = ShowsLines
    (λ lines. flat_map span_text (answers script.now (with_starts line_size 0 lines))) text output
IsOutput (mode.Edit cmds) text output = edits 0 text cmds.now ≡ Ok output
IsOutput mode.Json text output = output ≡ json_text text

-- the index, counted from 0, of the first command of the mode that is rejected, if there is one
abbrev pub fault_of : Mode → List ℕ → Option ℕ
fault_of (mode.Edit cmds) text = result_err (edits 0 text cmds.now)
fault_of other text = None
