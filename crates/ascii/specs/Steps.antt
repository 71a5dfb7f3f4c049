-- Iterator steps that also say how the rest of the state changes.
use Rattle.std.specs.Prelude.{◌≡◌, ℕ, ◌-◌, ◌^◌, ◌<◌, List, [], ◌∷◌, ◌++◌, IfSome, IsSomeAnd, MatchOption, Option, Some, drop, length, take}
use Rattle.std.specs.List.{Contains}
use Rattle.std.specs.Iterator.{YieldsFirstBy, YieldsLastBy}
use Rattle.std.specs.Iterator.Runs.{EveryRun, ItemsMapTo, ItemsMapToReversed}
use Rattle.ascii.specs.declared.ascii_str.AsciiStr.{AsciiStr}
use Rattle.ascii.specs.declared.iter.spans.LineSpan.{LineSpan}
use Rattle.ascii.specs.declared.iter.spans.SplitSpan.{SplitSpan}
use Rattle.ascii.specs.Lines.{Line, bodies}
use Rattle.ascii.specs.Pieces.{Remaining}
use Rattle.ascii.specs.ByClass.{whole}
use Rattle.ascii.specs.Cutting.{Cutting, left_of}
use Rattle.ascii.specs.Placed.{ArePlaced, IsPlaced}
use Rattle.ascii.specs.Spans.{EndFits, WithStart, line_in, piece_in}
use Rattle.ascii.specs.View.{text_of}

-- a piece does not contain the separator
abbrev pub IsFree : ℕ → List ℕ → Type 0
IsFree on piece = ¬ (Contains piece on)

-- the iterator cuts where it did
abbrev pub KeepsOn : {C A B : Type 0} → Remaining C A → Option B → Remaining C A → Type 0
KeepsOn old result new = new.on ≡ old.on

-- which end a step takes from: what it leaves, and how the items were the one taken and the others
pub record Side : Type 1 where
  pub Leaves : Cutting → WithStart (List ℕ) → WithStart (List ℕ) → Option (WithStart (List ℕ))
      → Type 0
  pub joined : WithStart (List ℕ) → List (WithStart (List ℕ)) → List (WithStart (List ℕ))

abbrev pub at_front : Side
at_front = record { Leaves = λ cut. cut.LeavesFront; joined = λ span others. span ∷ others }

abbrev pub at_back : Side
at_back = record { Leaves = λ cut. cut.LeavesBack; joined = λ span others. others ++ span ∷ [] }

-- the item `span` was cut off `part`: it is in the part where it starts, it is the first or last of
-- its items, the others are those of `rest`, and `rest` is what the cut leaves
pub record CutsOff (side : Side) (cut : Cutting) (part span : WithStart (List ℕ))
    (rest : Option (WithStart (List ℕ))) : Type 0 where
  pub placed : IsPlaced part.start part.item span
  pub items : cut.spans part ≡ side.joined span (left_of cut.spans rest)
  pub leaves : side.Leaves cut part span rest

-- the iterator cuts where it did; if there was an item, it is one of the cut, ends at a position
-- that fits a `usize`, and was cut off what was left
abbrev pub StepsSpan : {C A : Type 0} → Side → (C → Cutting) → Remaining C A → Option SplitSpan
    → Remaining C A → Type 0
StepsSpan side cuts old result new = (new.on ≡ old.on) × MatchOption result (new.rest ≡ old.rest)
    (λ span. (cuts old.on).IsItem (text_of span.text) × EndFits span.start span.text
    × IsSomeAnd old.rest (λ part. CutsOff side (cuts old.on) part (piece_in span) new.rest))

-- the same, of an item whose start is not yielded
abbrev pub StepsText : {C A : Type 0} → Side → (C → Cutting) → Remaining C A → Option AsciiStr
    → Remaining C A → Type 0
StepsText side cuts old result new = (new.on ≡ old.on) × MatchOption result (new.rest ≡ old.rest)
    (λ text. (cuts old.on).IsItem (text_of text) × IsSomeAnd old.rest (λ part.
    (span : WithStart (List ℕ)) × (span.item ≡ text_of text)
    × CutsOff side (cuts old.on) part span new.rest))

-- the new list is the old one without its first item
abbrev pub DropsFirst : {A B : Type 0} → List A → Option B → List A → Type 0
DropsFirst old result new = new ≡ drop 1 old

-- the new list is the old one without its last item
abbrev pub DropsLast : {A B : Type 0} → List A → Option B → List A → Type 0
DropsLast old result new = new ≡ take (length old - 1) old

-- the new lines are the old ones without the first, and its body ends at a position that fits
abbrev pub DropsFirstSpan
    : List (WithStart Line) → Option LineSpan → List (WithStart Line) → Type 0
DropsFirstSpan old result new =
    DropsFirst old result new × IfSome result (λ span. EndFits span.start span.text)

-- the new lines are the old ones without the last, and its body ends at a position that fits
abbrev pub DropsLastSpan
    : List (WithStart Line) → Option LineSpan → List (WithStart Line) → Type 0
DropsLastSpan old result new =
    DropsLast old result new × IfSome result (λ span. EndFits span.start span.text)

module _ {S A B : Type 0} (view : A → B) (items : S → List B)
    (also : S → Option A → S → Type 0) where
  -- the step yields the first of the items, and `also` relates it to the states around it
  abbrev pub YieldsFirstAnd : S → Option A → S → Type 0
  YieldsFirstAnd s r t = YieldsFirstBy view items s r t × also s r t

  -- the step yields the last of the items, and `also` relates it to the states around it
  abbrev pub YieldsLastAnd : S → Option A → S → Type 0
  YieldsLastAnd s r t = YieldsLastBy view items s r t × also s r t

  -- loops and chains over steps from the front see the items in order
  abbrev pub LoopsInOrder : Type 0
  LoopsInOrder = EveryRun YieldsFirstAnd (λ p. ItemsMapTo p view (items p.from))

  -- loops and chains over steps from the back see the items in reverse
  abbrev pub LoopsInReverse : Type 0
  LoopsInReverse = EveryRun YieldsLastAnd (λ p. ItemsMapToReversed p view (items p.from))

module _ {C : Type 0} (cuts : C → Cutting) where
  -- loops and chains over the items of a text see them in order, and from the back in reverse
  abbrev pub LoopsOverItems : Type 0
  LoopsOverItems = LoopsInOrder text_of (λ (left : Remaining C (List ℕ)). left.items)
      (StepsText at_front cuts)

  abbrev pub LoopsBackOverItems : Type 0
  LoopsBackOverItems = LoopsInReverse text_of (λ (left : Remaining C (List ℕ)). left.items)
      (StepsText at_back cuts)

  -- the same for the items with their starts
  abbrev pub LoopsOverSpans : Type 0
  LoopsOverSpans = LoopsInOrder piece_in (λ (left : Remaining C (WithStart (List ℕ))). left.items)
      (StepsSpan at_front cuts)

  abbrev pub LoopsBackOverSpans : Type 0
  LoopsBackOverSpans =
      LoopsInReverse piece_in (λ (left : Remaining C (WithStart (List ℕ))). left.items)
      (StepsSpan at_back cuts)

  module _ (on : C) (text : List ℕ) where
    -- the iterator has yet to yield the items of `text` by the cut, of a length that fits a `usize`,
    -- and the whole of it is left; loops and chains see the items in order
    pub record Iterates (iterator : Remaining C (List ℕ)) : Type 0 where
      pub are : iterator.items ≡ (cuts on).items text
      pub fits : length iterator.items < 2 ^ 64
      pub rest : iterator.rest ≡ Some (whole text)
      pub loops : LoopsOverItems
      pub loops_back : LoopsBackOverItems

  module _ (on : C) (part : WithStart (List ℕ)) where
    -- the same of an iterator over the items with their starts, each of which is what the text has
    -- where it starts
    pub record IteratesSpans (iterator : Remaining C (WithStart (List ℕ))) : Type 0 where
      pub are : iterator.items ≡ (cuts on).spans part
      pub fits : length iterator.items < 2 ^ 64
      pub rest : iterator.rest ≡ Some part
      pub placed : ArePlaced part.start part.item iterator.items
      pub loops : LoopsOverSpans
      pub loops_back : LoopsBackOverSpans

-- The laws of loops. A call that makes an iterator ensures two of them, for the proof of a loop or
-- a chain over that iterator: one for steps from the front, one for steps from the back. They are
-- laws for a caller's proof, not promises about the call's result.

-- loops over a `Lines` see the bodies in order
abbrev pub LoopsOverLines : Type 0
LoopsOverLines = LoopsInOrder text_of bodies DropsFirst

-- loops over a reversed `Lines` see the bodies in reverse
abbrev pub LoopsBackOverLines : Type 0
LoopsBackOverLines = LoopsInReverse text_of bodies DropsLast

-- loops over a `LineSpans` see the lines with their starts, in order
abbrev pub LoopsOverLineSpans : Type 0
LoopsOverLineSpans = LoopsInOrder line_in (λ lines. lines) DropsFirstSpan

-- loops over a reversed `LineSpans` see the lines with their starts, in reverse
abbrev pub LoopsBackOverLineSpans : Type 0
LoopsBackOverLineSpans = LoopsInReverse line_in (λ lines. lines) DropsLastSpan
