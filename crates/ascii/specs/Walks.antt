-- Taking items from a list, or from the pieces or lines of a view, by a script of ends.
use Rattle.std.specs.Prelude.{◌≡◌, List, [], ◌∷◌, Option, map}
use Rattle.std.specs.Iterator.{YieldsFirst, YieldsLast}
use Rattle.std.specs.Option.{option_map}
use Rattle.ascii_base.specs.declared.ascii_char.AsciiChar.{AsciiChar}
use Rattle.ascii.specs.declared.ascii_str.AsciiStr.{AsciiStr}
use Rattle.ascii.specs.declared.iter.spans.LineSpan.{LineSpan}
use Rattle.ascii.specs.declared.iter.spans.SplitSpan.{SplitSpan}
use Rattle.ascii.specs.declared.iter.walks.End.{End}
use Rattle.ascii.specs.declared.iter.walks.End.TheVariants.{Front, Back}
use Rattle.ascii.specs.Lines.{OfLines, bodies}
use Rattle.ascii.specs.Pieces.{OfPieces}
use Rattle.ascii.specs.Spans.{OfLineSpans, OfPieceSpans, line_in, piece_in}
use Rattle.ascii.specs.View.{text_of}

-- one step: `Front` yields the first item, `Back` the last, `None` if the list is empty; the other
-- items remain
abbrev pub TakesEnd : {A : Type 0} → End → List A → Option A → List A → Type 0
TakesEnd Front = YieldsFirst (λ items. items)
TakesEnd Back = YieldsLast (λ items. items)

module _ {S A : Type 0} (takes : End → S → Option A → S → Type 0) where
  -- running the script by `takes` yields the answers, one for each end, and leaves the last state
  abbrev pub AnswersTo : S → List End → List (Option A) → S → Type 0
  AnswersTo items [] [] left = left ≡ items
  AnswersTo items [] (answer ∷ answers) left = ⊥
  AnswersTo items (end ∷ script) [] left = ⊥
  AnswersTo items (end ∷ script) (answer ∷ answers) left =
      (others : S) × takes end items answer others × AnswersTo others script answers left

-- the answers of the list to the script, and the items that remain
abbrev pub ListAnswersTo : {A : Type 0} → List A → List End → List (Option A) → List A → Type 0
ListAnswersTo = AnswersTo TakesEnd

-- the answers of the list to the script
abbrev pub ListAnswers : {A : Type 0} → List A → List End → List (Option A) → Type 0
ListAnswers {A} items script answers = (left : List A) × ListAnswersTo items script answers left

-- the answers of the pieces of the view at `on` to the script
abbrev pub WalksPieces : AsciiStr → AsciiChar → List End → List (Option AsciiStr) → Type 0
WalksPieces view on script answers =
    OfPieces view on (λ pieces. ListAnswers pieces script (map (option_map text_of) answers))

-- the answers of the bodies of the view's lines to the script
abbrev pub WalksLines : AsciiStr → List End → List (Option AsciiStr) → Type 0
WalksLines view script answers =
    OfLines view (λ lines. ListAnswers (bodies lines) script (map (option_map text_of) answers))

-- the answers of the pieces of the view at `on`, with their starts, to the script
abbrev pub WalksPieceSpans : AsciiStr → AsciiChar → List End → List (Option SplitSpan) → Type 0
WalksPieceSpans view on script answers =
    OfPieceSpans view on (λ spans. ListAnswers spans script (map (option_map piece_in) answers))

-- the answers of the view's lines, with their starts and endings, to the script
abbrev pub WalksLineSpans : AsciiStr → List End → List (Option LineSpan) → Type 0
WalksLineSpans view script answers =
    OfLineSpans view (λ spans. ListAnswers spans script (map (option_map line_in) answers))
