-- What a change of a map is as a change of the contents of a store.
use Rattle.std.proofs.Common.{◌≡◌, List, Option, ap, arith, false}
use Rattle.std.proofs.Common.{ℕ}
use Rattle.std.proofs.lemmas.Map.Text.{is_eq-slice_cmp}
use Rattle.std.specs.BTreeMap.{UpdatesBy, is_at}
use Rattle.std.specs.Cmp.{eq_by_cmp_equiv}
use Rattle.std.specs.Cmp.Lexicographic.{bytes_decides, nat_list_cmp_total, slice_cmp}
use Rattle.std.specs.Map.{KeepsOthers}
use Rattle.std.specs.Option.{option_map}
use Rattle.std.specs.Ordering.{eq_by_cmp, nat_cmp}
use Rattle.std.specs.Str.{bytes_eq}
use Rattle.std.specs.declared.alloc.Global.{Global}
use Rattle.std.specs.declared.vec.Vec.{Vec}
use Rattle.example_resp.specs.Store.{Changes, contents_of}
use Rattle.example_resp.specs.declared.store.Store.{Store}

-- the bytes of a value, if there is one
abbrev pub bytes_in : Option (Vec ℕ Global) → Option (List ℕ)
bytes_in value = option_map (λ (bytes : Vec ℕ Global). bytes.items) value

-- keys of other bytes keep their values
kept : (old new : Store) (key other : List ℕ)
    → KeepsOthers (eq_by_cmp (λ (a b : Vec ℕ Global). slice_cmp nat_cmp a.items b.items))
    (is_at (λ (k : Vec ℕ Global). slice_cmp nat_cmp key k.items)) old.entries.entries
    new.entries.entries
    → bytes_eq key other ≡ false → contents_of new other ≡ contents_of old other
unfolding KeepsOthers
kept old new key other keeps apart = ap bytes_in (keeps
    (is_at (λ (k : Vec ℕ Global). slice_cmp nat_cmp other k.items))
    (λ x y. (eq_by_cmp_equiv nat_list_cmp_total).congr other x.items y.items)
    (λ k here. grind (arith, is_eq-slice_cmp, bytes_decides)))

-- a map that is changed at a key has changed contents
pub changes_contents : (old new : Store) (key : List ℕ) (value : Option (Vec ℕ Global))
    → UpdatesBy (λ (a b : Vec ℕ Global). slice_cmp nat_cmp a.items b.items)
    (λ (k : Vec ℕ Global). slice_cmp nat_cmp key k.items) old.entries new.entries value
    → Changes (contents_of old) key (bytes_in value) (contents_of new)
changes_contents old new key value updates other =
    grind (arith, kept old new key other updates.3, ap bytes_in updates.1, bytes_decides)
