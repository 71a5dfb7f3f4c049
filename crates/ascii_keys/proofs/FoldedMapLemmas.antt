-- What a search among the keys of a `FoldedMap` finds, and what an edit at that place changes.
use Rattle.std.proofs.Common.{◌≡◌, ◌∙◌, ℕ, zero, suc, ◌-◌, ◌<◌, ◌≤◌, Bool, true, false, List, []}
use Rattle.std.proofs.Common.{◌∷◌, Equal, Greater, IfErr, IfOk, Less, None}
use Rattle.std.proofs.Common.{Ordering, Result, Some, ⊎_elim, ap, arith, get_or}
use Rattle.std.proofs.Common.{IsSome, is_eq, is_lt, is_some, length, map, refl, set, sym}
use Rattle.std.proofs.Math.Seq.{map-set_same}
use Rattle.std.proofs.lemmas.Bool.{cases_Bool, cases_lt, cond-false, cond-true, false≢true}
use Rattle.std.proofs.lemmas.Cmp.{alike_right, eq_by_cmp_equiv, nat_list_cmp_total, on_total}
use Rattle.std.proofs.lemmas.Cmp.{tied_itself}
use Rattle.std.proofs.lemmas.Grind.{common_steps}
use Rattle.std.proofs.lemmas.List.{drop-map, get_or-map, get_or_default, length-map, length-set}
use Rattle.std.proofs.lemmas.List.{map-append, set-get_or, take-map}
use Rattle.std.proofs.lemmas.List.Edits.{get_or-insert_above, get_or-insert_at, get_or-insert_below}
use Rattle.std.proofs.lemmas.List.Edits.{get_or-remove_above, get_or-remove_below, length-insert}
use Rattle.std.proofs.lemmas.List.Edits.{length-remove}
use Rattle.std.proofs.lemmas.List.Sorted.{searchable_from_sorted}
use Rattle.std.proofs.lemmas.Map.{NonePasses, lookup-insert, lookup-none, lookup-remove_entry}
use Rattle.std.proofs.lemmas.Map.{lookup-set_value}
use Rattle.std.proofs.lemmas.Map.Entries.{lookup_from_place}
use Rattle.std.proofs.lemmas.Map.Keys.{IsDistinct-from_apart}
use Rattle.std.proofs.lemmas.Map.Text.{is_eq-slice_cmp}
use Rattle.std.proofs.lemmas.Option.{slice_get-get_or}
use Rattle.std.specs.Cmp.{IsEquivalence, IsTotalOrder}
use Rattle.std.specs.List.{All, IsDistinct, insert, remove}
use Rattle.std.specs.List.Sorted.{IsBinarySearchResult, IsNonDecreasingBy, IsSearchInRange}
use Rattle.std.specs.Map.{keys_of, lookup, remove_entry, set_value}
use Rattle.std.specs.Option.{unwrap_or}
use Rattle.std.specs.Ordering.{eq_by_cmp, ordering_index, ordering_reverse}
use Rattle.ascii.specs.Case.{lower_image}
use Rattle.ascii_keys.specs.Maps.{Changes, Entries, HasKeys, IsGapFor, IsInOrder, IsPlaceOf, Puts}
use Rattle.ascii_keys.specs.Maps.{folded_order, folded_value_at, same_folded}

-- ---- the order and the equality of texts

order_laws : IsTotalOrder folded_order
order_laws = on_total (map lower_image) nat_list_cmp_total

-- two texts are equal exactly if their order says so
same_is : (a b : List ℕ) → same_folded a b ≡ eq_by_cmp folded_order a b
same_is a b = sym (is_eq-slice_cmp (map lower_image a) (map lower_image b))

pub same_laws : IsEquivalence same_folded
same_laws =
    let laws = eq_by_cmp_equiv order_laws in record {
      refl = λ a. same_is a a ∙ laws.refl a;
      symm = λ a b. same_is a b ∙ (laws.symm a b ∙ sym (same_is b a));
      congr = λ a b c equal. grind (arith, same_is, equal);
    }

-- texts of this order are not equal, and those that are equal have the order `Equal`
apart : (a b : List ℕ) (r : Ordering) → is_eq r ≡ false → folded_order a b ≡ r
    → same_folded a b ≡ false
apart a b r is ordered = same_is a b ∙ (ap is_eq ordered ∙ is)

equal : (a b : List ℕ) → folded_order a b ≡ Equal → same_folded a b ≡ true
equal a b ordered = same_is a b ∙ ap is_eq ordered

-- no two keys in order are equal
distinct : {V : Type 0} (entries : Entries V) → IsInOrder entries
    → IsDistinct same_folded (keys_of entries)
distinct [] ordered = grind (arith, IsDistinct-from_apart)
distinct (e ∷ es) ordered = IsDistinct-from_apart same_folded (keys_of (e ∷ es))
    (λ i j d below inside.
    let short : j < length (e ∷ es) = omega (arith, inside, length-map (e ∷ es) (λ e. e.0)) in
    rw (
      get_or-map (λ e. e.0) (e ∷ es) i e d (omega arith),
      get_or-map (λ e. e.0) (e ∷ es) j e d short,
    )
    (apart (get_or (e ∷ es) i e).0 (get_or (e ∷ es) j e).0 Less refl (ordered i j e below short)))

-- each entry has the value of its key
pub values_are : {V : Type 0} (entries : Entries V) → IsInOrder entries
    → All (λ entry. folded_value_at entries entry.0 ≡ Some entry.1) entries
values_are entries ordered = λ i d inside.
    let e = get_or entries i d in
    lookup_from_place same_laws entries i e.0 e.1 (distinct entries ordered)
    (slice_get-get_or entries i d inside)

-- no key of a list of entries passes a test that none of them passes
none_passes : {V : Type 0} (test : List ℕ → Bool) (entries : Entries V)
    → ((i : ℕ) (d : List ℕ × V) → i < length entries → test (get_or entries i d).0 ≡ false)
    → NonePasses test entries
none_passes test [] fails = tt
none_passes test (e ∷ es) fails =
    (fails 0 e (omega arith), none_passes test es (λ i d inside. fails (suc i) d (omega arith)))

remove_none : {V : Type 0} (test : List ℕ → Bool) (entries : Entries V) → NonePasses test entries
    → remove_entry test entries ≡ entries
remove_none test [] none = refl
remove_none test (e ∷ es) none =
    cond-false (test e.0) es (e ∷ remove_entry test es) none.0
    ∙ ap (λ rest. e ∷ rest) (remove_none test es none.1)

-- ---- an edit at the first entry that passes a test

module _ {V : Type 0} (test : List ℕ → Bool) where
  -- the entry at `place` is the first that passes the test
  abbrev IsFirstAt : Entries V → ℕ → Type 0
  IsFirstAt entries place = (place < length entries)
      × ((d : List ℕ × V) → test (get_or entries place d).0 ≡ true)
      × ((i : ℕ) (d : List ℕ × V) → i < place → test (get_or entries i d).0 ≡ false)

  tail_first : (e : List ℕ × V) (es : Entries V) (place : ℕ) → IsFirstAt (e ∷ es) (suc place)
      → IsFirstAt es place
  tail_first e es place is = (
    omega (arith, is.0),
    λ d. is.1 d,
    λ i d below. is.2 (suc i) d (omega arith),
  )

  value_first : (entries : Entries V) (place : ℕ) (d : List ℕ × V) → IsFirstAt entries place
      → lookup test entries ≡ Some (get_or entries place d).1
  value_first [] place d is = absurd (omega (arith, is.0))
  value_first (e ∷ es) zero d is = cond-true (test e.0) (Some e.1) (lookup test es) (is.1 d)
  value_first (e ∷ es) (suc place) d is =
      cond-false (test e.0) (Some e.1) (lookup test es) (is.2 0 d (omega arith))
      ∙ value_first es place d (tail_first e es place is)

  set_first : (entries : Entries V) (place : ℕ) (d : List ℕ × V) (value : V)
      → IsFirstAt entries place
      → set_value test entries value ≡ set entries place ((get_or entries place d).0, value)
  set_first [] place d value is = absurd (omega (arith, is.0))
  set_first (e ∷ es) zero d value is =
      cond-true (test e.0) ((e.0, value) ∷ es) (e ∷ set_value test es value) (is.1 d)
  set_first (e ∷ es) (suc place) d value is =
      cond-false (test e.0) ((e.0, value) ∷ es) (e ∷ set_value test es value)
      (is.2 0 d (omega arith))
      ∙ ap (λ rest. e ∷ rest) (set_first es place d value (tail_first e es place is))

  remove_first : (entries : Entries V) (place : ℕ) (d : List ℕ × V) → IsFirstAt entries place
      → remove_entry test entries ≡ remove entries place
  remove_first [] place d is = absurd (omega (arith, is.0))
  remove_first (e ∷ es) zero d is = cond-true (test e.0) es (e ∷ remove_entry test es) (is.1 d)
  remove_first (e ∷ es) (suc place) d is =
      cond-false (test e.0) es (e ∷ remove_entry test es) (is.2 0 d (omega arith))
      ∙ ap (λ rest. e ∷ rest) (remove_first es place d (tail_first e es place is))

-- ---- what a search finds

module _ {V : Type 0} (entries : Entries V) (ordered : IsInOrder entries) (key : List ℕ) where
  rises : IsNonDecreasingBy (λ e. ordering_index (folded_order e.0 key)) entries
  rises = grind (arith, searchable_from_sorted, order_laws, is_lt)

  pub place_found : (r : Result ℕ ℕ) → IsSearchInRange r (length entries)
      → IsBinarySearchResult (λ e. folded_order e.0 key) entries r → IfOk r (IsPlaceOf entries key)
  place_found r inside found = grind (arith, equal)

  pub gap_found : (r : Result ℕ ℕ) → IsSearchInRange r (length entries)
      → IsBinarySearchResult (λ e. folded_order e.0 key) entries r → IfErr r (IsGapFor entries key)
  gap_found r inside found = grind (arith, rises)

-- ---- at the place of a key

module _ {V : Type 0} (entries : Entries V) (ordered : IsInOrder entries) (key : List ℕ) (place : ℕ)
    (is : IsPlaceOf entries key place) where
  -- the keys before it are lower
  first : IsFirstAt (same_folded key) entries place
  first = (
    is.inside,
    λ d. same_laws.symm key (get_or entries place d).0
        ∙ equal (get_or entries place d).0 key (is.equal d),
    λ i d below.
        let here = (get_or entries place d).0 in
        let before = (get_or entries i d).0 in
        same_laws.symm key before ∙ apart before key Less refl
        (sym (alike_right order_laws here key before (is.equal d))
        ∙ ordered i place d below is.inside),
  )

  module _ (e : List ℕ × V) (read : e ≡ get_or entries place e) where
    pub value_there : folded_value_at entries key ≡ Some e.1
    value_there = grind (arith, value_first, first)

    pub set_there : (value : V) → Changes same_folded (folded_value_at entries) key (Some value)
        (folded_value_at (set entries place (e.0, value)))
    set_there value = λ other.
        rw (
          ap (λ (e : List ℕ × V). e.0) read,
          ← set_first (same_folded key) entries place e value first,
        )
        (lookup-set_value same_laws (same_folded key) (same_laws.congr key) other value entries
        (ap is_some value_there))

    pub remove_is : remove entries place ≡ remove_entry (same_folded key) entries
    remove_is = sym (remove_first (same_folded key) entries place e first)

    pub remove_there : Changes same_folded (folded_value_at entries) key None
        (folded_value_at (remove entries place))
    remove_there = λ other.
        rw remove_is
        (lookup-remove_entry same_laws (same_folded key) (same_laws.congr key) other entries
        (distinct entries ordered))

    set_keys : (value : V) → keys_of (set entries place (e.0, value)) ≡ keys_of entries
    set_keys value = map-set_same (λ e. e.0) entries place (e.0, value) e
        (ap (λ (e : List ℕ × V). e.0) read)

    pub keys_there : (value : V) → HasKeys entries key (set entries place (e.0, value))
    keys_there value = rw value_there (set_keys value)

    pub set_in_order : (value : V) → IsInOrder (set entries place (e.0, value))
    set_in_order value = λ i j d below inside.
        grind (arith, common_steps, ordered i j d, read)

    -- the value there is the one that was put last, and another may be written in its place
    module _ (old : Entries V) (value : V) (put : Puts old key value entries) where
      pub value_put : e.1 ≡ value
      value_put =
          let there = cond-true (same_folded key key) (Some value) (folded_value_at old key)
          (same_laws.refl key) in
          cc (value_there, put.values key, there)

      pub put_there : (written : V) → Puts old key written (set entries place (e.0, written))
      put_there written = record {
        values = λ other. grind (arith, common_steps, set_there written other, put.values other);
        size = length-set entries place (e.0, written) ∙ put.size;
        keys = rw (set_keys written) put.keys;
      }

  -- the value there is as if it had been put
  pub put_same : (default : V)
      → Puts entries key (unwrap_or (folded_value_at entries key) default) entries
  put_same default =
      let e : List ℕ × V = get_or entries place (key, default) in
      let read : e ≡ get_or entries place e =
      get_or_default entries place (key, default) e is.inside in
      let same = set-get_or entries place (key, default) in
      rw (value_there e read) record {
        values = λ other. rw same at (set_there e read e.1 other);
        size = rw (value_there e read) (omega arith);
        keys = rw (value_there e read) refl;
      }

  pub remove_in_order : IsInOrder (remove entries place)
  remove_in_order = grind (arith, length-remove, get_or-remove_below, get_or-remove_above)

-- ---- at the gap for a key

module _ {V : Type 0} (entries : Entries V) (key : List ℕ) (place : ℕ)
    (is : IsGapFor entries key place) where
  absent : (other : List ℕ) → same_folded key other ≡ true → NonePasses (same_folded other) entries
  absent other equal = none_passes (same_folded other) entries (λ i d inside.
      let text = (get_or entries i d).0 in
      sym (same_laws.congr key other text equal) ∙ (same_laws.symm key text ∙ ⊎_elim
      (λ below. apart text key Less refl (is.parted.0 i d (omega arith) below))
      (λ above. apart text key Greater refl (is.parted.1 i d above inside)) (cases_lt i place)))

  pub no_value : folded_value_at entries key ≡ None
  no_value = lookup-none (same_folded key) entries (absent key (same_laws.refl key))

  pub not_there : ¬ (IsSome (folded_value_at entries key))
  not_there some = false≢true (rw no_value at some)

  -- without a value at the key, nothing changes if it is removed
  pub remove_absent : entries ≡ remove_entry (same_folded key) entries
  remove_absent = sym (remove_none (same_folded key) entries (absent key (same_laws.refl key)))

  pub none_there : Changes same_folded (folded_value_at entries) key None (folded_value_at entries)
  none_there = λ other. grind (arith, lookup-none, absent, cond-true, cond-false, cases_Bool)

  pub insert_there : (value : V) → Changes same_folded (folded_value_at entries) key (Some value)
      (folded_value_at (insert entries place (key, value)))
  insert_there value = λ other.
      lookup-insert same_laws key value other entries place (absent key (same_laws.refl key))

  pub insert_in_order : (value : V) → IsInOrder entries
      → IsInOrder (insert entries place (key, value))
  insert_in_order value ordered = λ i j d below inside.
      let long = length-insert entries place (key, value) is.inside in
      let low = λ (k : ℕ) (under : k < place). ap (λ (e : List ℕ × V). e.0)
      (get_or-insert_below entries place (key, value) d k under is.inside) in
      let at = ap (λ (e : List ℕ × V). e.0)
      (get_or-insert_at entries place (key, value) d is.inside) in
      let high = λ (k : ℕ) (over : place ≤ k). ap (λ (e : List ℕ × V). e.0)
      (get_or-insert_above entries place (key, value) d k over is.inside) in
      let above = λ (k : ℕ) (over : place ≤ k) (within : k < length entries).
      order_laws.antisymm key (get_or entries k d).0
      ∙ ap ordering_reverse (is.parted.1 k d over within) in
      grind (
        arith,
        long,
        low i,
        low j,
        at,
        high (i - 1),
        high (j - 1),
        ordered i j d,
        ordered i (j - 1) d,
        ordered (i - 1) (j - 1) d,
        is.parted.0 i d,
        above (j - 1),
      )

  pub place_inserted : (value : V) → IsPlaceOf (insert entries place (key, value)) key place
  place_inserted value = record {
    inside = omega (arith, is.inside, length-insert entries place (key, value) is.inside);
    equal = λ d. rw (get_or-insert_at entries place (key, value) d is.inside)
        (tied_itself order_laws key);
  }

  pub keys_inserted : (value : V) → HasKeys entries key (insert entries place (key, value))
  keys_inserted value = rw no_value (place, simp (map-append, take-map, drop-map))

  pub put_inserted : (default : V)
      → Puts entries key (unwrap_or (folded_value_at entries key) default)
      (insert entries place (key, default))
  put_inserted default = rw no_value record {
    values = insert_there default;
    size = rw no_value (length-insert entries place (key, default) is.inside);
    keys = keys_inserted default;
  }
