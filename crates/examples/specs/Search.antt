-- Searches among lines.
use Rattle.std.specs.List.{All}
use Rattle.std.specs.Prelude.{◌≡◌, ℕ, List, ◌∷◌, ◌++◌, MatchOption, Option, map}
use Rattle.ascii.specs.Case.{lower_image}
use Rattle.ascii.specs.Lines.{Line}
use Rattle.ascii.specs.Search.{ContainsText}
use Rattle.ascii.specs.Spans.{WithStart, line_in}
use Rattle.ascii.specs.declared.iter.spans.LineSpan.{LineSpan}

-- `line` contains `word`, ignoring ASCII case
abbrev pub Has : List ℕ → WithStart Line → Type 0
Has word line = ContainsText (map lower_image word) (map lower_image line.item.body)

-- none of `lines` contains `word`
abbrev pub NoneHas : List ℕ → List (WithStart Line) → Type 0
NoneHas word lines = All (λ line. ¬ (Has word line)) lines

-- `line` is one of `lines` and contains `word`, and none after it does
pub record IsLast (word : List ℕ) (lines : List (WithStart Line)) (line : WithStart Line) : Type 0
  where
    pub before : List (WithStart Line)
    pub after : List (WithStart Line)
    pub split : lines ≡ before ++ line ∷ after
    pub has : Has word line
    pub last : NoneHas word after

-- the last of `lines` that contains `word`, or `None` if none does
abbrev pub IsLastWith : List ℕ → Option LineSpan → List (WithStart Line) → Type 0
IsLastWith word result lines =
    MatchOption result (NoneHas word lines) (λ line. IsLast word lines (line_in line))
