-- The texts of a set are the keys of a map.
use Rattle.std.proofs.Common.{◌≡◌, ◌<◌, arith, ℕ, suc, Bool, Less, List, [], ◌∷◌, Some, get_or, length}
use Rattle.std.specs.List.{AllByRecursion}
use Rattle.std.specs.List.Sorted.{IsStrictlySortedBy}
use Rattle.std.proofs.lemmas.Map.Made.{is_some-lookup}
use Rattle.std.specs.Map.{keys_of, lookup}
use Rattle.ascii_keys.specs.Maps.{Changes, Entries, IsInOrder, folded_order}
use Rattle.ascii_keys.specs.Sets.{Adds}

-- a map in which a value was put at a key has that key, and those that it had
pub adds_key : {V : Type 0} (same : List ℕ → List ℕ → Bool) (key : List ℕ) (value : V)
    (old new : Entries V)
    → Changes same (λ text. lookup (same text) old) key (Some value) (λ text. lookup (same text) new)
    → Adds same (keys_of old) key (keys_of new)
adds_key same key value old new changes = λ other.
    rw (← is_some-lookup (same other) new, ← is_some-lookup (same other) old, changes other)
    (grind arith)

-- a text that is lower than each key is lower than all of them
lower_than_all : {V : Type 0} (text : List ℕ) (entries : Entries V)
    → ((i : ℕ) (d : List ℕ × V) → i < length entries
    → folded_order text (get_or entries i d).0 ≡ Less)
    → AllByRecursion (λ key. folded_order text key ≡ Less) (keys_of entries)
lower_than_all text [] lower = tt
lower_than_all text (entry ∷ entries) lower = (
  lower 0 entry (omega arith),
  lower_than_all text entries (λ i d inside. lower (suc i) d (omega arith)),
)

-- the keys of entries in order ascend
pub keys_ascend : {V : Type 0} (entries : Entries V) → IsInOrder entries
    → IsStrictlySortedBy folded_order (keys_of entries)
unfolding IsStrictlySortedBy
keys_ascend [] ordered = tt
keys_ascend (entry ∷ entries) ordered = (
  lower_than_all entry.0 entries
      (λ i d inside. ordered 0 (suc i) d (omega arith) (omega arith)),
  keys_ascend entries
      (λ i j d below inside. ordered (suc i) (suc j) d (omega arith) (omega arith)),
)
