-- Parts of a text with their start positions, and what a cut leaves of one.
use Rattle.std.specs.Prelude.{◌≡◌, ℕ, ◌+◌, ◌-◌, List, MatchOption, Option, drop, length, take}

-- an item with its start position
pub record WithStart (A : Type 0) : Type 0 where
  pub start : ℕ
  pub item : A

-- the position after the last code of a part
abbrev pub part_end : WithStart (List ℕ) → ℕ
part_end part = part.start + length part.item

-- `tail` is what `part` has from `gap` codes after `item` on
pub record IsAfter (gap : ℕ) (part item tail : WithStart (List ℕ)) : Type 0 where
  pub start : tail.start ≡ part_end item + gap
  pub text : tail.item ≡ drop (tail.start - part.start) part.item
  pub end : part_end tail ≡ part_end part

-- `front` is what `part` has up to `gap` codes before `item`
pub record IsBefore (gap : ℕ) (part item front : WithStart (List ℕ)) : Type 0 where
  pub start : front.start ≡ part.start
  pub text : front.item ≡ take (part_end front - part.start) part.item
  pub end : part_end front + gap ≡ item.start

-- what is left of `part` after its first item: nothing only if that ends where the part ends
abbrev pub LeavesAfter
    : ℕ → WithStart (List ℕ) → WithStart (List ℕ) → Option (WithStart (List ℕ)) → Type 0
LeavesAfter gap part item rest =
    MatchOption rest (part_end item ≡ part_end part) (IsAfter gap part item)

-- what is left of `part` before its last item: nothing only if that starts where the part starts
abbrev pub LeavesBefore
    : ℕ → WithStart (List ℕ) → WithStart (List ℕ) → Option (WithStart (List ℕ)) → Type 0
LeavesBefore gap part item rest =
    MatchOption rest (item.start ≡ part.start) (IsBefore gap part item)
