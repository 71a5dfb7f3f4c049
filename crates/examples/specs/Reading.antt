-- What the three ways to go over lines return.
use Rattle.std.specs.Prelude.{◌≡◌, ◌≢◌, ◌≤◌, ℕ, List, [], ◌∷◌, ◌++◌, length, None, Some, ⊤}
use Rattle.std.specs.List.{All}
use Rattle.std.specs.declared.option.Option.{Option}
use Rattle.ascii.specs.Lines.{Line}
use Rattle.ascii.specs.Search.{ContainsText}
use Rattle.ascii.specs.Spans.{WithStart}
use Rattle.ascii_lines.specs.CollectedLines.{block_lines_in}
use Rattle.ascii_lines.specs.LineReader.{IsDone, ReaderState, YieldsLines}
use Rattle.ascii_lines.specs.declared.owned_lines.Block.{Block}

-- `count` lines were read, and they were all
abbrev pub Counts : ReaderState → ReaderState → ℕ → Type 0
Counts old new count = (lines : List (WithStart Line)) × (length lines ≡ count)
    × YieldsLines old lines new × IsDone new

-- the lines do not contain this text
abbrev pub AreOthers : List ℕ → List (WithStart Line) → Type 0
AreOthers text lines = All (λ line. ¬ (ContainsText text line.item.body)) lines

-- `Some`: the first line that contains this text starts there, and the lines up to it were read.
-- `None`: all lines were read, and none contains it
abbrev pub Finds : List ℕ → ReaderState → ReaderState → Option ℕ → Type 0
Finds text old new (Some start) = (lines : List (WithStart Line)) × (found : WithStart Line)
    × AreOthers text lines × ContainsText text found.item.body × (found.start ≡ start)
    × YieldsLines old (lines ++ found ∷ []) new
Finds text old new None = (lines : List (WithStart Line)) × AreOthers text lines
    × YieldsLines old lines new × IsDone new

-- the lines of a header are at most `most`, none is empty, and an empty one comes after them
abbrev pub ReadsHeader : ℕ → ReaderState → ReaderState → Option Block → Type 0
ReadsHeader most old new (Some block) = (length (block_lines_in block) ≤ most)
    × All (λ line. line.item.body ≢ []) (block_lines_in block)
    × ((empty : WithStart Line) × (empty.item.body ≡ [])
    × YieldsLines old (block_lines_in block ++ empty ∷ []) new)
ReadsHeader most old new None = ⊤
