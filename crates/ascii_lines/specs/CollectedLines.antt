-- What a run of a line reader yields.
use Rattle.std.specs.Prelude.{◌≡◌, ◌≢◌, ◌≤◌, ℕ, List, [], ◌∷◌, ◌++◌, length, map, None, Some}
use Rattle.std.specs.declared.option.Option.{Option}
use Rattle.ascii.specs.Lines.{Line}
use Rattle.ascii.specs.Spans.{WithStart, items_of}
use Rattle.ascii.specs.Lines.{IsBody}
use Rattle.ascii.specs.Spans.{LineSpansEndedBy}
use Rattle.ascii.specs.Endings.{any_text}
use Rattle.std.specs.List.{All}
use Rattle.ascii_lines.specs.declared.line_reader.LineError.{LineError}
use Rattle.ascii_lines.specs.declared.owned_lines.Block.{Block}
use Rattle.ascii_lines.specs.declared.owned_lines.BlockEnd.{BlockEnd}
use Rattle.ascii_lines.specs.declared.owned_lines.BlockEnd.TheVariants as end
use Rattle.ascii_lines.specs.declared.owned_lines.OwnedLine.{OwnedLine}
use Rattle.ascii_lines.specs.declared.owned_lines.CollectedLines.{CollectedLines}
use Rattle.ascii_lines.specs.declared.line_reader.Stage.TheVariants.{Open}
use Rattle.ascii_lines.specs.declared.wanted.Content.TheVariants.{Text}
use Rattle.ascii_lines.specs.declared.wanted.Wanted.TheVariants as wanted
use Rattle.ascii_lines.specs.LineReader.{IsDone, ReaderState, StopsAt, YieldsLines}

-- a `OwnedLine` as a line with its start
abbrev pub owned_line_in : OwnedLine → WithStart Line
owned_line_in line =
    record { start = line.start; item = record { body = line.text.text; ending = line.ending } }

-- the lines of a `CollectedLines`, with their starts
abbrev pub collected_lines_in : CollectedLines → List (WithStart Line)
collected_lines_in kept = map owned_line_in kept.lines.items

-- from the state `old` to the state `new` the reader returned `lines`. With no error, that was all.
-- With an error it stopped there, at the line after them
abbrev pub YieldsUntil
    : ReaderState → List (WithStart Line) → Option LineError → ReaderState → Type 0
YieldsUntil old lines None new = YieldsLines old lines new × IsDone new
YieldsUntil old lines (Some error) new = (before : ReaderState) × YieldsLines old lines before
    × (before.stage ≡ Open) × StopsAt (wanted.Line before.endings Text) before error new

-- if it is known which bytes the source of a reader in the state `old` has yet to give, `lines`
-- are the first lines of these and of the bytes held, and with no error they are all of their
-- lines. Their bodies are bodies by the reader's endings
abbrev pub AreFirstLines : ReaderState → List (WithStart Line) → Option LineError → Type 0
AreFirstLines old lines error = (told : List ℕ) → old.device.rest ≡ Some told
    → (others : List (WithStart Line))
    × LineSpansEndedBy (any_text old.endings) old.start (old.held ++ told) (lines ++ others)
    × (error ≡ None → others ≡ [])
    × All (λ line. IsBody old.endings line.body) (items_of lines)

-- from the state `old` to the state `new` the reader returned some lines, and stopped after them at
-- the error, or at the end; and what `after` says of these lines is true of `state`
pub record FoldsLines {T : Type 0} (after : List (WithStart Line) → T → Type 0) (old : ReaderState)
    (state : T) (error : Option LineError) (new : ReaderState) : Type 0 where
  pub lines : List (WithStart Line)
  pub runs : YieldsUntil old lines error new
  pub first : AreFirstLines old lines error
  pub holds : after lines state

-- the lines of a `Block`, with their starts
abbrev pub block_lines_in : Block → List (WithStart Line)
block_lines_in block = map owned_line_in block.lines.items

-- the lines are not empty, and at most `most`
abbrev pub IsBlock : ℕ → List (WithStart Line) → Type 0
IsBlock most lines = All (λ line. line.item.body ≢ []) lines × (length lines ≤ most)

-- from the state `old` to the state `new` the reader returned `lines`, none of them empty, and then
-- an empty one, or no more; or it stopped at an error; or they are as many as were asked for
abbrev pub YieldsBlock
    : ℕ → ReaderState → List (WithStart Line) → BlockEnd → ReaderState → Type 0
YieldsBlock most old lines end.EmptyLine new = IsBlock most lines
    × ((empty : WithStart Line) × (empty.item.body ≡ []) × YieldsLines old
    (lines ++ empty ∷ []) new)
YieldsBlock most old lines end.EndOfInput new =
    IsBlock most lines × YieldsLines old lines new × IsDone new
YieldsBlock most old lines end.Full new =
    IsBlock most lines × (length lines ≡ most) × YieldsLines old lines new
YieldsBlock most old lines (end.Reader error) new =
    IsBlock most lines × YieldsUntil old lines (Some error) new
