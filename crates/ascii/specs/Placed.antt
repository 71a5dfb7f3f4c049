-- Items that are what their text has where they start.
use Rattle.std.specs.Prelude.{◌≡◌, ℕ, ◌+◌, ◌-◌, ◌≤◌, List, length, slice_range}
use Rattle.std.specs.List.{All}
use Rattle.ascii.specs.Lines.{Line}
use Rattle.ascii.specs.Spans.{WithStart}

-- `text` has `item` at `place`
abbrev pub HasAt : List ℕ → ℕ → List ℕ → Type 0
HasAt text place item = slice_range text place (place + length item) ≡ item

-- `span` is in the text, which starts at `offset`: it is what the text has where it starts
pub record IsPlaced (offset : ℕ) (text : List ℕ) (span : WithStart (List ℕ)) : Type 0 where
  pub low : offset ≤ span.start
  pub high : span.start + length span.item ≤ offset + length text
  pub has : HasAt text (span.start - offset) span.item

-- every item is in the text, which starts at `offset`, where it starts
abbrev pub ArePlaced : ℕ → List ℕ → List (WithStart (List ℕ)) → Type 0
ArePlaced offset text spans = All (IsPlaced offset text) spans

-- the body of a line, with the start of the line
abbrev pub body_in : WithStart Line → WithStart (List ℕ)
body_in span = record { start = span.start; item = span.item.body }

-- the body of every line is in the text, which starts at `offset`, where the line starts
abbrev pub ArePlacedLines : ℕ → List ℕ → List (WithStart Line) → Type 0
ArePlacedLines offset text spans = All (λ span. IsPlaced offset text (body_in span)) spans
