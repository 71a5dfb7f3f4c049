-- The first item with a property.
use Rattle.std.specs.Prelude.{ℕ, List, All, IsSomeAnd, slice_get, take}

-- the item at index `k` has the property `Here`, and every item before it the property `Before`
pub record IsFirstAt {A : Type 0} (Before Here : A → Type 0) (items : List A) (k : ℕ) : Type 0 where
  pub here : IsSomeAnd (slice_get items k) Here
  pub before : All Before (take k items)
