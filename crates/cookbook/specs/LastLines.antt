-- The last lines of a text, and the lines before them.
use Rattle.std.specs.Prelude.{ℕ, ◌-◌, List, [], ◌∷◌, ◌++◌, drop, length, take}
use Rattle.ascii.specs.Lines.{Line, LinesOf}
use Rattle.ascii.specs.Spans.{LineSpansOf, WithStart}

-- the lines of `text` are the last `n` lines of `whole`, or all of them if it has fewer
abbrev pub HasLastLines : ℕ → List ℕ → List ℕ → Type 0
HasLastLines n whole text =
    (lines : List Line) × LinesOf whole lines × LinesOf text (drop (length lines - n) lines)

-- the lines of `text` are the lines of `whole` without its last `n`, or none if it has fewer
abbrev pub HasLinesBefore : ℕ → List ℕ → List ℕ → Type 0
HasLinesBefore n whole text =
    (lines : List Line) × LinesOf whole lines × LinesOf text (take (length lines - n) lines)

-- `last` is the last line of `text`, with its start
abbrev pub HasLastLine : List ℕ → WithStart Line → Type 0
HasLastLine text last = (lines : List (WithStart Line)) × LineSpansOf 0 text (lines ++ last ∷ [])
