-- Ways to cut a text into items, from both ends.
use Rattle.std.specs.Prelude.{◌≡◌, ◌≢◌, ℕ, List, [], ◌∷◌, ◌++◌, IfSome, MatchOption, Option, Some, length}
use Rattle.std.specs.Option.{option_map}
use Rattle.ascii.specs.declared.ascii_str.AsciiStr.{AsciiStr}
use Rattle.ascii.specs.declared.iter.cursor.Cursor.{Cursor}
use Rattle.ascii.specs.declared.iter.spans.SplitSpan.{SplitSpan}
use Rattle.ascii.specs.Cutting.{Cutting, left_of}
use Rattle.ascii.specs.Found.{part_in}
use Rattle.ascii.specs.Pieces.{Remaining}
use Rattle.ascii.specs.Placed.{ArePlaced}
use Rattle.ascii.specs.Spans.{EndFits, WithStart, items_of, piece_in}
use Rattle.ascii.specs.Steps.{LoopsBackOverSpans, LoopsOverSpans}
use Rattle.ascii.specs.View.{text_of}

-- an item that a way of cutting found, what is left, and what is known of that
abbrev pub Found : Type 0 → Type 0
Found Marks = SplitSpan × Option Cursor × Marks

module _ {Marks : Type 0} (cut : Cutting) (part : Cursor) where
  -- there are no items, or the first of them was cut off
  abbrev pub CutsFirst : Option (Found Marks) → Type 0
  CutsFirst result = MatchOption result (cut.spans (part_in part) ≡ []) (λ found. cut.spans (part_in part)
      ≡ piece_in found.0 ∷ left_of cut.spans (option_map part_in found.1))

  -- there are no items, or the last of them was cut off
  abbrev pub CutsLast : Option (Found Marks) → Type 0
  CutsLast result = MatchOption result (cut.spans (part_in part) ≡ []) (λ found. cut.spans (part_in part)
      ≡ left_of cut.spans (option_map part_in found.1) ++ piece_in found.0 ∷ [])

  -- what is left is what comes after the first item
  abbrev pub LeavesRest : Option (Found Marks) → Type 0
  LeavesRest result = IfSome result
      (λ found. cut.LeavesFront (part_in part) (piece_in found.0) (option_map part_in found.1))

  -- what is left is what is before the last item
  abbrev pub LeavesFrontOf : Option (Found Marks) → Type 0
  LeavesFrontOf result = IfSome result
      (λ found. cut.LeavesBack (part_in part) (piece_in found.0) (option_map part_in found.1))

-- the item is one as `Is` says, and ends at a position that fits a `usize`
abbrev pub IsCut : {Marks : Type 0} → (List ℕ → Type 0) → Option (Found Marks) → Type 0
IsCut Is result =
    IfSome result (λ cut. Is (text_of cut.0.text) × EndFits cut.0.start cut.0.text)

-- the marks of what is left say of it what `knows` says
abbrev pub KnowsRest : {Marks : Type 0} → (Marks → List ℕ → Type 0) → Option (Found Marks) → Type 0
KnowsRest knows result =
    IfSome result (λ cut. IfSome cut.1 (λ rest. knows cut.2 (text_of rest.view)))

-- `None` if no items remain; otherwise the part that is left, whose items, each with its start, are
-- the remaining ones
abbrev pub IsRestOf
    : {C : Type 0} → (C → Cutting) → Remaining C (WithStart (List ℕ)) → Option (ℕ × AsciiStr) → Type 0
IsRestOf cuts left result = MatchOption result (left.items ≡ []) (λ tail.
    let part : WithStart (List ℕ) = record { start = tail.0; item = text_of tail.1 } in
    (left.rest ≡ Some part) × (cuts left.on).AreSpans part left.items × (left.items ≢ []))

-- `None` if no items remain; otherwise the text that is left, whose items are the remaining ones
abbrev pub IsRemainder
    : {C : Type 0} → (C → Cutting) → Remaining C (List ℕ) → Option AsciiStr → Type 0
IsRemainder cuts left result = MatchOption result (left.items ≡ []) (λ view.
    (option_map (λ part. part.item) left.rest ≡ Some (text_of view))
    × (cuts left.on).AreItems (text_of view) left.items × (left.items ≢ []))

-- an iterator over the items of another with their starts, each of which is what the text that is
-- left has where it starts
pub record IsSpansOf {C : Type 0} (cuts : C → Cutting) (items : Remaining C (List ℕ))
    (spans : Remaining C (WithStart (List ℕ))) : Type 0 where
  pub on : spans.on ≡ items.on
  pub rest : spans.rest ≡ items.rest
  pub are : spans.items ≡ left_of (cuts items.on).spans items.rest
  pub same : items_of spans.items ≡ items.items
  pub long : length spans.items ≡ length items.items
  pub placed : IfSome items.rest (λ part. ArePlaced part.start part.item spans.items)
  pub loops : LoopsOverSpans cuts
  pub loops_back : LoopsBackOverSpans cuts

-- ---- only private functions cite the following

-- `part` is what is left of the text: the remaining items are those of it, and there are some
pub record IsPartLeft {C : Type 0} (cuts : C → Cutting) (left : Remaining C (WithStart (List ℕ)))
    (part : WithStart (List ℕ)) : Type 0 where
  pub rest : left.rest ≡ Some part
  pub spans : (cuts left.on).AreSpans part left.items
  pub items : (cuts left.on).AreItems part.item (items_of left.items)
  pub some : left.items ≢ []
