-- Pieces and lines with their start positions.
use Rattle.std.specs.Prelude.{◌≡◌, ◌≢◌, ℕ, ◌+◌, ◌-◌, ◌^◌, ◌<◌, ◌≤◌, List, [], ◌∷◌, length, map}
use Rattle.std.specs.Prelude.{Bool, Option, MatchOption}
use Rattle.std.specs.Bool.{Decides}
use Rattle.std.specs.List.{filter}
use Rattle.ascii_base.specs.declared.ascii_char.AsciiChar.{AsciiChar}
use Rattle.ascii_base.specs.Code.{code_of}
use Rattle.ascii.specs.declared.ascii_str.AsciiStr.{AsciiStr}
use Rattle.ascii.specs.declared.iter.spans.Endings.{Endings}
use Rattle.ascii.specs.declared.iter.spans.Endings.TheVariants as by
use Rattle.ascii.specs.declared.iter.spans.LineSpan.{LineSpan}
use Rattle.ascii.specs.declared.iter.spans.SplitSpan.{SplitSpan}
use Rattle.ascii.specs.Lines.{Line, LinesEndedBy, line_text}
use Rattle.ascii.specs.Pieces.{IsUnique, Pieces, Remaining}
use Rattle.ascii.specs.View.{text_of}
pub use Rattle.ascii.specs.Parts.{WithStart}

-- the items laid end to end from `start`, each occupying `size item` positions
abbrev pub with_starts : {A : Type 0} → (A → ℕ) → ℕ → List A → List (WithStart A)
with_starts size start [] = []
with_starts size start (item ∷ items) =
    record { start = start; item = item } ∷ with_starts size (start + size item) items

-- the size of a piece: its length, and one separator
abbrev pub piece_size : List ℕ → ℕ
piece_size piece = length piece + 1

-- the size of a piece and of what follows it up to the next one
abbrev pub after_piece : ℕ → List ℕ → ℕ
after_piece between piece = length piece + between

-- the size of a line: the length of its body and its ending
abbrev pub line_size : Line → ℕ
line_size line = length (line_text line)

-- the items without their starts
abbrev pub items_of : {A : Type 0} → List (WithStart A) → List A
items_of spans = map (λ span. span.item) spans

-- the items of `spans` are the pieces of `text` at `on`, laid end to end from `start`
pub record PieceSpans (start : ℕ) (text : List ℕ) (on : ℕ) (spans : List (WithStart (List ℕ)))
    : Type 0 where
  pub pieces : Pieces text on (items_of spans)
  pub starts : spans ≡ with_starts piece_size start (items_of spans)

-- the items of `spans` are the lines of `text` by `kind`, laid end to end from `start`
pub record LineSpansEndedBy (kind : Endings) (start : ℕ) (text : List ℕ)
    (spans : List (WithStart Line)) : Type 0 where
  pub lines : LinesEndedBy kind text (items_of spans)
  pub starts : spans ≡ with_starts line_size start (items_of spans)

-- the items of `spans` are the lines of `text`, laid end to end from `start`
abbrev pub LineSpansOf : ℕ → List ℕ → List (WithStart Line) → Type 0
LineSpansOf = LineSpansEndedBy by.Any

-- `Holds` is true of a list that is the pieces of the view at `on`, with starts counted from 0
abbrev pub OfPieceSpans : AsciiStr → AsciiChar → (List (WithStart (List ℕ)) → Type 0) → Type 0
OfPieceSpans view on Holds = (spans : List (WithStart (List ℕ)))
    × PieceSpans 0 (text_of view) (code_of on) spans × Holds spans

-- `Holds` is true of a list that is the lines of the view, with starts counted from 0
abbrev pub OfLineSpans : AsciiStr → (List (WithStart Line) → Type 0) → Type 0
OfLineSpans view Holds =
    (spans : List (WithStart Line)) × LineSpansOf 0 (text_of view) spans × Holds spans

-- `kept` are the items of which `Is` is true, in order: what a test of `Is` keeps of them
pub record Filters {A : Type 0} (Is : A → Type 0) (items kept : List A) : Type 0 where
  pub test : A → Bool
  pub decides : (item : A) → Decides (test item) (Is item)
  pub are : kept ≡ filter test items

-- the split has yet to yield the pieces of `text` at `on`, laid end to end from `start`, the only
-- list that they are, of a length that fits a `usize`
pub record IteratesPieceSpans (start : ℕ) (text : List ℕ) (on : ℕ)
    (split : Remaining ℕ (WithStart (List ℕ))) : Type 0 where
  pub spans : PieceSpans start text on split.items
  pub only : IsUnique (PieceSpans start text on) split.items
  pub separator : split.on ≡ on
  pub fits : length split.items < 2 ^ 64

-- `remaining` are the lines of `text`, laid end to end from `start`, the only list that they are,
-- of a length that fits a `usize`
pub record IteratesLineSpans (start : ℕ) (text : List ℕ) (remaining : List (WithStart Line))
    : Type 0 where
  pub spans : LineSpansOf start text remaining
  pub only : IsUnique (LineSpansOf start text) remaining
  pub fits : length remaining < 2 ^ 64

-- a `SplitSpan` as an item with its start
abbrev pub piece_in : SplitSpan → WithStart (List ℕ)
piece_in span = record { start = span.start; item = text_of span.text }

-- a `LineSpan` as an item with its start
abbrev pub line_in : LineSpan → WithStart Line
line_in span =
    record { start = span.start; item = record { body = text_of span.text; ending = span.ending } }

-- a view that starts at `start` ends at a position that fits a `usize`
abbrev pub EndFits : ℕ → AsciiStr → Type 0
EndFits start view = start + length (text_of view) ≤ 2 ^ 64 - 1

-- `None` if no lines remain; otherwise a start and a view whose lines, from that start, are the
-- remaining ones
abbrev pub IsRemainderOfLineSpans : List (WithStart Line) → Option (ℕ × AsciiStr) → Type 0
IsRemainderOfLineSpans remaining result = MatchOption result (remaining ≡ [])
    (λ tail. LineSpansOf tail.0 (text_of tail.1) remaining × (remaining ≢ []))
