-- The strings of a map, as texts.
use Rattle.std.proofs.Common.{◌≡◌, ◌∙◌, ℕ, Less, List, [], ◌∷◌, Bool, None, Option, Some, ap, cond, is_some}
use Rattle.std.proofs.Common.{map, refl, sym}
use Rattle.std.specs.Borrow.{MutBor}
use Rattle.std.specs.List.{AllByRecursion}
use Rattle.std.specs.List.Sorted.{IsStrictlySortedBy}
use Rattle.std.specs.BTreeMap.{BTreeMap, UpdatesBy, WritesThrough, get_by, insert_entry, is_at}
use Rattle.std.specs.Cmp.Lexicographic.{slice_cmp}
use Rattle.std.specs.Map.{keys_of, lookup, remove_entry, values_of}
use Rattle.std.specs.Option.{IsSome, OnSome, option_copied_mut}
use Rattle.std.specs.Ordering.{nat_cmp}
use Rattle.std.specs.Prelude.{string_bytes}
use Rattle.std.specs.Str.{IsAscii, bytes_eq}
use Rattle.std.specs.String.{string_cmp}
use Rattle.std.specs.declared.string.String.{String}
use Rattle.std.proofs.lemmas.Bool.{false≢true}
use Rattle.std.proofs.lemmas.List.Elements.{All-tail}
use Rattle.std.proofs.lemmas.Map.Text.{btree_map_updates_text, is_eq-slice_cmp}
use Rattle.std.proofs.lemmas.Map.Views.{All-keys-insert_entry, All-map-remove_entry}
use Rattle.ascii_keys.specs.Maps.{ChangesAt, HasAsciiKeys, Writes, texts_of, value_at}

module _ {A V : Type 0} where
  -- a text is found among the texts where it is found among the strings
  pub lookup_texts : (key : List ℕ) (entries : List (String A × V))
      → lookup (is_at (λ k. slice_cmp nat_cmp key (string_bytes k))) entries
      ≡ lookup (bytes_eq key) (texts_of entries)
  lookup_texts key [] = refl
  lookup_texts key (entry ∷ entries) =
      rw (is_eq-slice_cmp key (string_bytes entry.0), lookup_texts key entries) refl

  -- no value is at a text that is not found among the strings
  pub no_value : (key : List ℕ) (entries : List (String A × V))
      → None ≡ lookup (is_at (λ k. slice_cmp nat_cmp key (string_bytes k))) entries
      → ¬ (IsSome (value_at (texts_of entries) key))
  no_value key entries none some = false≢true (rw (← lookup_texts key entries, ← none) at some)

  above_texts : (key : String A) (entries : List (String A × V))
      → AllByRecursion (λ k. string_cmp key k ≡ Less) (keys_of entries)
      → AllByRecursion (λ k. slice_cmp nat_cmp (string_bytes key) k ≡ Less)
      (keys_of (texts_of entries))
  above_texts key [] all = all
  above_texts key (entry ∷ entries) all = (all.0, above_texts key entries all.1)

  -- strings that ascend are texts that do
  pub sorted_texts : (entries : List (String A × V))
      → IsStrictlySortedBy string_cmp (keys_of entries)
      → IsStrictlySortedBy (slice_cmp nat_cmp) (keys_of (texts_of entries))
  unfolding IsStrictlySortedBy
  sorted_texts [] sorted = sorted
  sorted_texts (entry ∷ entries) sorted =
      (above_texts entry.0 entries sorted.0, sorted_texts entries sorted.1)

  -- a change of a map at a text changes its texts there
  pub changes_texts : (key : List ℕ) (old new : BTreeMap (String A) V) (value : Option V)
      → UpdatesBy string_cmp (λ k. slice_cmp nat_cmp key (string_bytes k)) old new value
      → ChangesAt key value (texts_of old.entries) (texts_of new.entries)
  changes_texts key old new value updates other = sym (lookup_texts other new.entries)
      ∙ (btree_map_updates_text key old new value updates other
      ∙ ap (λ found. cond (bytes_eq key other) value found) (lookup_texts other old.entries))

  -- without the first, with one more, and without one the strings are ASCII
  pub ascii_tail : (entry : String A × V) (entries : List (String A × V))
      → HasAsciiKeys (entry ∷ entries) → HasAsciiKeys entries
  ascii_tail entry entries all =
      All-tail (λ key. IsAscii (string_bytes key)) entry.0 (keys_of entries) all

  pub ascii_more : (entries : List (String A × V)) (key : String A) (value : V)
      → HasAsciiKeys entries → IsAscii (string_bytes key)
      → HasAsciiKeys (insert_entry string_cmp entries key value)
  ascii_more entries key value all ascii = All-keys-insert_entry string_cmp key value
      (λ one. IsAscii (string_bytes one)) entries all ascii

  pub ascii_less : (test : String A → Bool) (entries : List (String A × V))
      → HasAsciiKeys entries → HasAsciiKeys (remove_entry test entries)
  ascii_less test entries all =
      All-map-remove_entry test (λ e. e.0) (λ one. IsAscii (string_bytes one)) entries all

  keys_texts : (entries : List (String A × V))
      → keys_of (texts_of entries) ≡ map string_bytes (keys_of entries)
  keys_texts [] = refl
  keys_texts (entry ∷ entries) = ap (λ keys. string_bytes entry.0 ∷ keys) (keys_texts entries)

  -- the values are those of the strings
  pub values_texts : (entries : List (String A × V))
      → values_of (texts_of entries) ≡ values_of entries
  values_texts [] = refl
  values_texts (entry ∷ entries) = ap (λ values. entry.1 ∷ values) (values_texts entries)

  -- a value written at a text that is found changes it, and no key
  pub writes_texts : (key : List ℕ) (old new : BTreeMap (String A) V) (value : V)
      (found : Option (MutBor V))
      → option_copied_mut found ≡ get_by (λ k. slice_cmp nat_cmp key (string_bytes k)) old
      → WritesThrough string_cmp (λ k. slice_cmp nat_cmp key (string_bytes k)) old value new
      → OnSome found (Writes (texts_of old.entries) key value (texts_of new.entries))
  writes_texts key old new value None is through = tt
  writes_texts key old new value (Some there) is through = record {
    values = changes_texts key old new (Some value) (through.3 (ap is_some (sym is)));
    keys = keys_texts new.entries
        ∙ (ap (map string_bytes) through.1 ∙ sym (keys_texts old.entries));
  }
