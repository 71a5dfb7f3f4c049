-- Ways to cut a text into items: what the items are, and what is left when one was cut off.
use Rattle.std.specs.Prelude.{◌≡◌, ℕ, ◌+◌, ◌≤◌, List, [], Option, Some, None, length, reverse}
use Rattle.ascii.specs.Parts.{WithStart}
use Rattle.ascii.specs.Placed.{ArePlaced}
use Rattle.ascii.specs.Spans.{items_of}

-- the items of a part; `[]` without a part
abbrev pub left_of : (WithStart (List ℕ) → List (WithStart (List ℕ))) → Option (WithStart (List ℕ))
    → List (WithStart (List ℕ))
left_of items None = []
left_of items (Some part) = items part

-- a way to cut
pub record Cutting : Type 1 where
  -- which lists are the items of a text, in order, and the one that is
  pub AreItems : List ℕ → List (List ℕ) → Type 0
  pub items : List ℕ → List (List ℕ)
  -- which lists are the items of a part, each with its start, and the one that is
  pub AreSpans : WithStart (List ℕ) → List (WithStart (List ℕ)) → Type 0
  pub spans : WithStart (List ℕ) → List (WithStart (List ℕ))
  -- what each item is
  pub IsItem : List ℕ → Type 0
  -- what is left of a part after its first item, and before its last one
  pub LeavesFront : WithStart (List ℕ) → WithStart (List ℕ) → Option (WithStart (List ℕ)) → Type 0
  pub LeavesBack : WithStart (List ℕ) → WithStart (List ℕ) → Option (WithStart (List ℕ)) → Type 0

-- the laws of a way to cut
pub record IsLawful (cut : Cutting) : Type 0 where
  -- one list is the items of a text, and no other
  pub found : (text : List ℕ) → cut.AreItems text (cut.items text)
  pub only : (text : List ℕ) (others : List (List ℕ)) → cut.AreItems text others
      → others ≡ cut.items text
  -- the list with starts is one that is the items with their starts
  pub spanned : (part : WithStart (List ℕ)) → cut.AreSpans part (cut.spans part)
  -- the starts do not change what the items are
  pub same : (part : WithStart (List ℕ)) → items_of (cut.spans part) ≡ cut.items part.item
  -- every item is what the text has where it starts
  pub placed : (part : WithStart (List ℕ)) → ArePlaced part.start part.item (cut.spans part)
  -- there is at most one more than the codes of the text
  pub fits : (part : WithStart (List ℕ)) → length (cut.spans part) ≤ length part.item + 1

-- the same items, the last one first
abbrev pub backwards : Cutting → Cutting
backwards cut = record {
  AreItems = λ text items. cut.AreItems text (reverse items);
  items = λ text. reverse (cut.items text);
  AreSpans = λ part spans. cut.AreSpans part (reverse spans);
  spans = λ part. reverse (cut.spans part);
  IsItem = cut.IsItem;
  LeavesFront = cut.LeavesBack;
  LeavesBack = cut.LeavesFront;
}
