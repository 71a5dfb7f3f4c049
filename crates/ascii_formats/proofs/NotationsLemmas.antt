-- Tables of what is written for each code.
use Rattle.std.proofs.Common.{◌≡◌, ℕ, ◌+◌, ◌*◌, ◌<◌, Bool, true, List, bytes_eq}
use Rattle.std.proofs.lemmas.Bool.{agree_below, agree_below_at}
use Rattle.std.specs.Cmp.Lexicographic.{bytes_decides}
use Rattle.std.specs.List.{slice_range}

-- the first `count` cells of the table, of `width` codes each, are what `written` says
abbrev pub cells_are : List ℕ → (ℕ → List ℕ) → ℕ → ℕ → Bool
cells_are table written width count = agree_below
    (λ n. bytes_eq (slice_range table (n * width) (n * width + width)) (written n)) (λ _. true) count

-- so is the cell at an index less than `count`
pub cell_is : (table : List ℕ) (written : ℕ → List ℕ) (width count n : ℕ)
    → cells_are table written width count ≡ true → n < count
    → slice_range table (n * width) (n * width + width) ≡ written n
cell_is table written width count n are inside =
    (bytes_decides _ _).0 (agree_below_at _ (λ _. true) count n are inside)
