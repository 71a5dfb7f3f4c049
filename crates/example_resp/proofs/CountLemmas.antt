-- Keys that are counted or removed, one after another.
use Rattle.std.proofs.Common.{◌≡◌, ◌∙◌, ◌+◌, ◌<◌, ℕ, List, [], ◌∷◌, ◌++◌, None, Option}
use Rattle.std.proofs.Common.{Bool, ap, arith, cond, get_or, is_some, length, refl, subst, sym}
use Rattle.std.proofs.Common.{take}
use Rattle.std.proofs.lemmas.List.{map-append, take_more}
use Rattle.std.specs.Map.{update}
use Rattle.std.specs.Str.{bytes_eq}
use Rattle.std.specs.declared.alloc.Global.{Global}
use Rattle.std.specs.declared.vec.Vec.{Vec}
use Rattle.example_resp.specs.Store.{Contents, one_at, removed_count, byte_lists, value_count}
use Rattle.example_resp.specs.Store.{without}

-- ---- lists of keys

-- one key more is counted
value_count-more : (contents : Contents) (keys : List (List ℕ)) (key : List ℕ)
    → value_count contents (keys ++ key ∷ []) ≡ value_count contents keys + one_at contents key
value_count-more contents [] key = omega (arith)
value_count-more contents (first ∷ keys) key =
    omega (arith, value_count-more contents keys key)

-- one key more is removed
without-more : (contents : Contents) (keys : List (List ℕ)) (key : List ℕ)
    → without contents (keys ++ key ∷ []) ≡ update bytes_eq (without contents keys) key None
without-more contents [] key = refl
without-more contents (first ∷ keys) key =
    without-more (update bytes_eq contents first None) keys key

removed_count-more : (contents : Contents) (keys : List (List ℕ)) (key : List ℕ)
    → removed_count contents (keys ++ key ∷ [])
    ≡ removed_count contents keys + one_at (without contents keys) key
removed_count-more contents [] key = omega (arith)
removed_count-more contents (first ∷ keys) key =
    omega (arith, removed_count-more (update bytes_eq contents first None) keys key)

-- ---- keys

-- the bytes of one key more
lists_more : (keys : List (Vec ℕ Global)) (i : ℕ) (key : Vec ℕ Global) → i < length keys
    → byte_lists (take (i + 1) keys) ≡ byte_lists (take i keys) ++ (get_or keys i key).items ∷ []
lists_more keys i key inside =
    ap byte_lists (take_more keys i key inside)
    ∙ map-append (λ (s : Vec ℕ Global). s.items) (take i keys) (get_or keys i key ∷ [])

-- how many values a test has found at a key
pub one_found : (contents : Contents) (text key : List ℕ) (found is : Bool) → text ≡ key
    → found ≡ is_some (contents text) → found ≡ is → one_at contents key ≡ cond is 1 0
one_found contents text key found is same says held =
    subst (λ (k : List ℕ). one_at contents k ≡ cond is 1 0) same
    (ap (λ b. cond b 1 0) (sym says ∙ held))

-- the count after one key more
pub counts_more : (contents : Contents) (keys : List (Vec ℕ Global)) (i : ℕ) (key : Vec ℕ Global)
    → i < length keys → value_count contents (byte_lists (take (i + 1) keys))
    ≡ value_count contents (byte_lists (take i keys)) + one_at contents (get_or keys i key).items
counts_more contents keys i key inside =
    ap (value_count contents) (lists_more keys i key inside)
    ∙ value_count-more contents (byte_lists (take i keys)) (get_or keys i key).items

-- the contents `held` after one key more is removed from them
pub removes_more : (contents held new : Contents) (keys : List (Vec ℕ Global)) (i : ℕ)
    (key : Vec ℕ Global) → i < length keys
    → ((other : List ℕ) → held other ≡ without contents (byte_lists (take i keys)) other)
    → ((other : List ℕ) → new other ≡ update bytes_eq held (get_or keys i key).items None other)
    → (other : List ℕ) → new other ≡ without contents (byte_lists (take (i + 1) keys)) other
removes_more contents held new keys i key inside before changes other =
    let one = (get_or keys i key).items in
    changes other ∙ (ap (cond (bytes_eq one other) None) (before other)
    ∙ sym (ap (λ (texts : List (List ℕ)). without contents texts other)
    (lists_more keys i key inside)
    ∙ ap (λ (f : Contents). f other) (without-more contents (byte_lists (take i keys)) one)))

-- the count of values that are gone after one key more
pub removed_more : (contents held : Contents) (keys : List (Vec ℕ Global)) (i : ℕ)
    (key : Vec ℕ Global) → i < length keys
    → ((other : List ℕ) → held other ≡ without contents (byte_lists (take i keys)) other)
    → removed_count contents (byte_lists (take (i + 1) keys))
    ≡ removed_count contents (byte_lists (take i keys)) + one_at held (get_or keys i key).items
removed_more contents held keys i key inside before =
    let one = (get_or keys i key).items in
    ap (removed_count contents) (lists_more keys i key inside)
    ∙ (removed_count-more contents (byte_lists (take i keys)) one
    ∙ ap (λ (value : Option (List ℕ)).
    removed_count contents (byte_lists (take i keys)) + cond (is_some value) 1 0)
    (sym (before one)))
