-- What a store holds: a function from keys to values. `update` is std's word for a function that is
-- changed at one key.
use Rattle.std.specs.BTreeMap.{get_by}
use Rattle.std.specs.Cmp.Lexicographic.{slice_cmp}
use Rattle.std.specs.Map.{update}
use Rattle.std.specs.Option.{option_map}
use Rattle.std.specs.Ordering.{nat_cmp}
use Rattle.std.specs.Prelude.{◌≡◌, ◌+◌, ℕ, List, [], ◌∷◌, None, Option, if◌then◌else◌, is_some, map}
use Rattle.std.specs.Str.{bytes_eq}
use Rattle.std.specs.declared.alloc.Global.{Global}
use Rattle.std.specs.declared.vec.Vec.{Vec}
use Rattle.example_resp.specs.declared.store.Store.{Store}

-- keys, values and words as lists of bytes
abbrev pub byte_lists : List (Vec ℕ Global) → List (List ℕ)
byte_lists words = map (λ word. word.items) words

-- the contents of a store: the value at a key, or `None` if there is none
abbrev pub Contents : Type 0
Contents = List ℕ → Option (List ℕ)

-- the contents of `store`
abbrev pub contents_of : Store → Contents
contents_of store key =
    option_map (λ value. value.items) (get_by (λ k. slice_cmp nat_cmp key k.items) store.entries)

-- the contents `new` are `old`, except that they have `value` at the key `key`
abbrev pub Changes : Contents → List ℕ → Option (List ℕ) → Contents → Type 0
Changes old key value new = (other : List ℕ) → new other ≡ update bytes_eq old key value other

-- 1 if there is a value at the key, or 0
abbrev pub one_at : Contents → List ℕ → ℕ
one_at contents key = if is_some (contents key) then 1 else 0

-- the number of these keys at which there is a value
abbrev pub value_count : Contents → List (List ℕ) → ℕ
value_count contents [] = 0
value_count contents (key ∷ keys) = one_at contents key + value_count contents keys

-- the contents without the values at these keys
abbrev pub without : Contents → List (List ℕ) → Contents
without contents [] = contents
without contents (key ∷ keys) = without (update bytes_eq contents key None) keys

-- the number of values that go when these keys are removed, one after another
abbrev pub removed_count : Contents → List (List ℕ) → ℕ
removed_count contents [] = 0
removed_count contents (key ∷ keys) =
    one_at contents key + removed_count (update bytes_eq contents key None) keys
