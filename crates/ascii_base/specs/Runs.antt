-- The ends of a run of codes of a class or outside it.
use Rattle.std.specs.Prelude.{ℕ, ◌-◌, ◌<◌, ◌≤◌, Bool, not, List, length, slice_index}
use Rattle.ascii_base.specs.Bytes.{IsOnSide}

-- the codes of `text` from position `from` up to `end` are on one side of the class `Is`, and the
-- code at `end`, if there is one, is on the other
pub record EndsRun (Is : ℕ → Type 0) (inside : Bool) (text : List ℕ) (from end : ℕ) : Type 0 where
  pub low : from ≤ end
  pub high : end ≤ length text
  pub run : (k : ℕ) → from ≤ k → k < end → IsOnSide Is inside (slice_index text k)
  pub stop : end < length text → IsOnSide Is (not inside) (slice_index text end)

-- the codes of `text` from position `start` up to `to` are on one side of the class `Is`, and the
-- code before `start`, if there is one, is on the other
pub record StartsRun (Is : ℕ → Type 0) (inside : Bool) (text : List ℕ) (to start : ℕ) : Type 0
  where
    pub high : start ≤ to
    pub run : (k : ℕ) → start ≤ k → k < to → IsOnSide Is inside (slice_index text k)
    pub stop : 0 < start → IsOnSide Is (not inside) (slice_index text (start - 1))
