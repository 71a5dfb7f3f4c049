-- What contracts see of a set: the list of its texts. `is_member` is std's word for whether a text is among them.
use Rattle.std.specs.List.Sorted.{IsStrictlySortedBy}
use Rattle.std.specs.Prelude.{◌≡◌, ◌||◌, ℕ, Bool, List}
use Rattle.std.specs.Set.{is_member}
use Rattle.std.specs.declared.cmp.Ordering.{Ordering}

-- the texts `new` are those of `old`, and `text`, by `same`
abbrev pub Adds : (List ℕ → List ℕ → Bool) → List (List ℕ) → List ℕ → List (List ℕ) → Type 0
Adds same old text new =
    (other : List ℕ) → is_member same new other ≡ (same text other || is_member same old other)

-- `iterator` has yet to yield the texts of `set`, which ascend by `order`
pub record WalksTexts (order : List ℕ → List ℕ → Ordering) (set iterator : List (List ℕ)) : Type 0
  where
    pub texts : iterator ≡ set
    pub ordered : IsStrictlySortedBy order set
