-- What contracts see of a map: a list of texts with their values, and a function from texts. `update`
-- is std's word for a function that is changed at one text, `lookup` for the first entry whose key passes a test.
use Rattle.std.specs.Borrow.{Bor}
use Rattle.std.specs.Cmp.Lexicographic.{slice_cmp}
use Rattle.std.specs.List.{All, HoldsAt, insert}
use Rattle.std.specs.List.Sorted.{IsPartitionPoint, IsStrictlySortedBy}
use Rattle.std.specs.Map.{keys_of, lookup, update, values_of}
use Rattle.std.specs.Ordering.{nat_cmp, on}
use Rattle.std.specs.Prelude.{◌≡◌, ℕ, ◌+◌, ◌<◌, ◌≤◌, Bool, List, MatchOption, Option, Some}
use Rattle.std.specs.Prelude.{cond, is_some, length, map, slice_index_or, string_bytes}
use Rattle.std.specs.Str.{IsAscii, bytes_eq}
use Rattle.std.specs.declared.cmp.Ordering.{Ordering}
use Rattle.std.specs.declared.cmp.Ordering.TheVariants.{Equal, Greater, Less}
use Rattle.std.specs.declared.string.String.{String}
use Rattle.ascii.specs.Case.{lower_image}
use Rattle.ascii.specs.View.{text_of}
use Rattle.ascii.specs.declared.ascii_str.AsciiStr.{AsciiStr}

-- a value at each text, or `None` if there is none
abbrev pub Values : Type 0 → Type 0
Values V = List ℕ → Option V

-- the values `new` are `old`, except that they have `value` at each text that is `key` by `same`
abbrev pub Changes : {V : Type 0} → (List ℕ → List ℕ → Bool) → Values V → List ℕ → Option V
    → Values V → Type 0
Changes same old key value new = (other : List ℕ) → new other ≡ update same old key value other

-- texts with their values
abbrev pub Entries : Type 0 → Type 0
Entries V = List (List ℕ × V)

-- the value in `entries` at `key`, or `None` if there is none
abbrev pub value_at : {V : Type 0} → Entries V → Values V
value_at entries key = lookup (bytes_eq key) entries

-- `new` has what `old` has, except that it has `value` at `key`
abbrev pub ChangesAt : {V : Type 0} → List ℕ → Option V → Entries V → Entries V → Type 0
ChangesAt key value old new = Changes bytes_eq (value_at old) key value (value_at new)

-- `new` has the keys of `old`, in their order, and their values, except that it has `value` at `key`
pub record Writes {V : Type 0} (old : Entries V) (key : List ℕ) (value : V) (new : Entries V)
    : Type 0 where
  pub values : ChangesAt key (Some value) old new
  pub keys : keys_of new ≡ keys_of old

-- `iterator` has yet to yield the entries of `map`, whose keys ascend by their bytes
pub record Walks {V : Type 0} (map iterator : Entries V) : Type 0 where
  pub entries : iterator ≡ map
  pub ordered : IsStrictlySortedBy (slice_cmp nat_cmp) (keys_of map)

-- `iterator` has yet to yield the values of `map`, in the order of its keys, which ascend by their
-- bytes
pub record WalksValues {V : Type 0} (map : Entries V) (iterator : List V) : Type 0 where
  pub values : iterator ≡ values_of map
  pub ordered : IsStrictlySortedBy (slice_cmp nat_cmp) (keys_of map)

-- ---- a map that ignores ASCII case: a list of texts with their values

-- the entry that a walk yields as a view of its key and a reference to its value
abbrev pub entry_of : {V : Type 0} → AsciiStr × Bor V → List ℕ × V
entry_of entry = (text_of entry.0, entry.1.now)

-- whether two texts are equal, ignoring ASCII case
abbrev pub same_folded : List ℕ → List ℕ → Bool
same_folded = on (map lower_image) bytes_eq

-- the order of two texts in lower case
abbrev pub folded_order : List ℕ → List ℕ → Ordering
folded_order = on (map lower_image) (slice_cmp nat_cmp)

-- the value in `entries` at `key`, ignoring ASCII case, or `None` if there is none
abbrev pub folded_value_at : {V : Type 0} → Entries V → Values V
folded_value_at entries key = lookup (same_folded key) entries

-- the texts of `new` are those of `old`, each as it is written there. If `key` is not among them,
-- ignoring ASCII case, it is one more
abbrev pub HasKeys : {V : Type 0} → Entries V → List ℕ → Entries V → Type 0
HasKeys old key new = MatchOption (folded_value_at old key)
    ((place : ℕ) × (keys_of new ≡ insert (keys_of old) place key)) (λ _. keys_of new ≡ keys_of old)

-- the entries `new` are `old`, except that they have `value` at `key`, ignoring ASCII case
pub record Puts {V : Type 0} (old : Entries V) (key : List ℕ) (value : V) (new : Entries V) : Type 0
  where
    pub values : Changes same_folded (folded_value_at old) key (Some value) (folded_value_at new)
    pub size : length new ≡ length old + cond (is_some (folded_value_at old key)) 0 1
    pub keys : HasKeys old key new

-- the texts of `entries` ascend in lower case, so no two are equal
abbrev pub IsInOrder : {V : Type 0} → Entries V → Type 0
IsInOrder {V} entries = (i j : ℕ) (d : List ℕ × V) → i < j → j < length entries
    → folded_order (slice_index_or entries i d).0 (slice_index_or entries j d).0 ≡ Less

-- `iterator` has yet to yield the entries of `map`, whose keys ascend in lower case, and each has
-- the value of its key
pub record WalksInOrder {V : Type 0} (map iterator : Entries V) : Type 0 where
  pub entries : iterator ≡ map
  pub ordered : IsInOrder map
  pub values : All (λ entry. folded_value_at map entry.0 ≡ Some entry.1) map

-- ---- only private calls cite the following

-- strings with their values, as texts
abbrev pub texts_of : {A V : Type 0} → List (String A × V) → Entries V
texts_of entries = map (λ entry. (string_bytes entry.0, entry.1)) entries

-- the strings are ASCII
abbrev pub HasAsciiKeys : {A V : Type 0} → List (String A × V) → Type 0
HasAsciiKeys entries = All (λ key. IsAscii (string_bytes key)) (keys_of entries)

-- the entry at `place` is that of `key`
pub record IsPlaceOf {V : Type 0} (entries : Entries V) (key : List ℕ) (place : ℕ) : Type 0 where
  pub inside : place < length entries
  pub equal : HoldsAt (λ entry. folded_order entry.0 key ≡ Equal) entries place

-- the entry of `key` would be at `place`: before it are lower texts, and from it on higher ones
pub record IsGapFor {V : Type 0} (entries : Entries V) (key : List ℕ) (place : ℕ) : Type 0 where
  pub inside : place ≤ length entries
  pub parted : IsPartitionPoint (λ entry. folded_order entry.0 key ≡ Less)
      (λ entry. folded_order entry.0 key ≡ Greater) entries place
