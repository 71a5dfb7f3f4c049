-- The range of a text from one position to another.
use Rattle.std.proofs.Common.{◌≡◌, ℕ, ◌+◌, ◌-◌, ◌≤◌, List, [], ◌++◌, arith, drop, drop-drop, refl}
use Rattle.std.proofs.Math.Seq.{take-add}
use Rattle.std.specs.List.{slice_range}

-- it is empty if the second is not after the first
pub range-none : (text : List ℕ) (start end : ℕ) → end ≤ start → slice_range text start end ≡ []
range-none text start end over =
    let none : end - start ≡ 0 = omega arith in rw none refl

-- a cut of it
pub range-cut : (text : List ℕ) (start n end : ℕ) → start + n ≤ end
    → slice_range text start (start + n) ++ slice_range text (start + n) end
    ≡ slice_range text start end
range-cut text start n end within = grind (
  arith,
  drop-drop n start text,
  take-add n (end - (start + n)) (drop start text),
)
