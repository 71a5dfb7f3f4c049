-- Marks of the codes of a text that come next, which private functions keep: bits of a `u64`.
use Rattle.std.specs.Prelude.{◌≡◌, ◌≢◌, ℕ, ◌+◌, ◌-◌, ◌<◌, ◌≤◌, Bool, not, List, drop, length}
use Rattle.std.specs.Prelude.{slice_index, take}
use Rattle.std.specs.Int.{bit_at}
use Rattle.ascii_base.specs.Bytes.{IsOnSide}
use Rattle.ascii_base.specs.Runs.{EndsRun, StartsRun}
use Rattle.ascii_search.specs.declared.marked.MarkedRun.{MarkedRun}
use Rattle.ascii_search.specs.declared.marked.Marked.{Marked}
use Rattle.ascii_search.specs.declared.marked.MarkedEnds.{MarkedEnds}

-- from `at` on, the bits of `mask` are those of the codes of `text`, in order: 1 for the codes on
-- the side of the class `Is`, and 0 for the others; the bits before `at` are 0
pub record Shows (Is : ℕ → Type 0) (side : Bool) (text : List ℕ) (at mask : ℕ) : Type 0 where
  pub room : 64 ≤ at + length text
  pub set : (k : ℕ) → bit_at mask k ≡ 1
      → (at ≤ k) × (k < 64) × IsOnSide Is side (slice_index text (k - at))
  pub clear : (k : ℕ) → bit_at mask k ≡ 0 → at ≤ k → k < 64
      → IsOnSide Is (not side) (slice_index text (k - at))

-- `marks` has no mark, or shows the codes of `text` that are on the side of the class `Is`
abbrev pub AreMarks : (ℕ → Type 0) → Bool → Marked → List ℕ → Type 0
AreMarks Is side marks text = marks.mask ≢ 0 → Shows Is side text marks.at marks.mask

-- bit `k` is the lowest one of `mask` that is 1
pub record IsLowest (mask k : ℕ) : Type 0 where
  pub few : k < 64
  pub set : bit_at mask k ≡ 1
  pub below : (j : ℕ) → j < k → bit_at mask j ≡ 0

-- `found` is the first run of codes of `text` on the side of the class `Is`, and its marks are
-- those of what follows the run
pub record IsFirstRun (Is : ℕ → Type 0) (side : Bool) (text : List ℕ) (found : MarkedRun)
    : Type 0 where
  pub gap : EndsRun Is (not side) text 0 found.start
  pub some : found.start < length text
  pub run : EndsRun Is side text found.start found.end
  pub marks : AreMarks Is side found.marks (drop found.end text)

-- the bits of `mask` before `at` are those of the last codes of `text`, in order: 1 for the codes
-- on the side of the class `Is`, and 0 for the others; the bits from `at` on are 0
pub record ShowsLast (Is : ℕ → Type 0) (side : Bool) (text : List ℕ) (at mask : ℕ) : Type 0 where
  pub room : at ≤ length text
  pub set : (k : ℕ) → bit_at mask k ≡ 1
      → (k < at) × IsOnSide Is side (slice_index text (length text - at + k))
  pub clear : (k : ℕ) → bit_at mask k ≡ 0 → k < at
      → IsOnSide Is (not side) (slice_index text (length text - at + k))

-- `marks` has no mark, or shows the last codes of `text` that are on the side of the class `Is`
abbrev pub AreLastMarks : (ℕ → Type 0) → Bool → Marked → List ℕ → Type 0
AreLastMarks Is side marks text = marks.mask ≢ 0 → ShowsLast Is side text marks.at marks.mask

-- `marks` are marks of the first codes of `text` and marks of the last ones
abbrev pub AreEndMarks : (ℕ → Type 0) → Bool → MarkedEnds → List ℕ → Type 0
AreEndMarks Is side marks text =
    AreMarks Is side marks.front text × AreLastMarks Is side marks.back text

-- bit `k` is the highest one of `mask` that is 1
pub record IsHighest (mask k : ℕ) : Type 0 where
  pub few : k < 64
  pub set : bit_at mask k ≡ 1
  pub above : (j : ℕ) → k < j → bit_at mask j ≡ 0

-- `found` is the last run of codes of `text` on the side of the class `Is`, and its marks are those
-- of what comes before the run
pub record IsLastRun (Is : ℕ → Type 0) (side : Bool) (text : List ℕ) (found : MarkedRun)
    : Type 0 where
  pub gap : StartsRun Is (not side) text (length text) found.end
  pub some : 0 < found.end
  pub run : StartsRun Is side text (found.end - 1) found.start
  pub marks : AreLastMarks Is side found.marks (take found.start text)
