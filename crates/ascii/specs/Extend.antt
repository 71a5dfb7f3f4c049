-- What extending a string from an iterator does.
use Rattle.std.specs.Prelude.{◌≡◌, ℕ, ◌+◌, ◌<◌, ◌≤◌, List, [], ◌∷◌, ◌++◌, length, map, take}
use Rattle.std.specs.Prelude.{Option, Some, None, MatchResult}
use Rattle.std.specs.List.{flat_map, join_by}
use Rattle.std.specs.Iterator.{Drains, Yields}
use Rattle.std.specs.declared.result.Result.{Result}
use Rattle.ascii.specs.declared.ascii_str.AsciiStr.{AsciiStr}
use Rattle.ascii.specs.StringState.{StringState}
use Rattle.ascii.specs.View.{text_of}

-- The new text is the old text followed by the pieces of the items taken. `Ok`: the iterator has no
-- further item. `Err`: it yielded one more, of which nothing was appended, and with which the text
-- would fit neither the old capacity nor `sure` codes.
pub record Extends {S A E : Type 0} (sure : ℕ) (steps : S → Option A → S → Type 0) (piece : A → List ℕ)
    (iter : S) (old new : StringState) (result : Result (Unit {0}) E) : Type 0 where
  pub items : List A
  pub left : S
  pub gave : Yields steps iter items left
  pub text : new.text ≡ old.text ++ flat_map piece items
  pub ended : MatchResult result
      (λ _. (end : S) × steps left None end)
      (λ _. (refused : A) × (after : S) × steps left (Some refused) after
      × (old.capacity < length (old.text ++ flat_map piece (items ++ refused ∷ [])))
      × (sure < length (old.text ++ flat_map piece (items ++ refused ∷ []))))

-- the text is the pieces of the items that the iterator yielded before it ended, in order
abbrev pub Collects : {S A : Type 0} → (S → Option A → S → Type 0) → (A → List ℕ) → S → List ℕ
    → Type 0
Collects {A = A} steps piece iter text =
    (items : List A) × Drains steps iter items × (text ≡ flat_map piece items)

-- the iterator yielded items of which the text is longer than `room`
abbrev pub YieldsPast
    : {S A : Type 0} → ℕ → (S → Option A → S → Type 0) → (List A → List ℕ) → S → Type 0
YieldsPast {S} {A} room steps text iter = (items : List A) × (left : S)
    × Yields steps iter items left × (room < length (text items))

-- the text is the texts of the views that the iterator yielded before it ended, with `separator`
-- between each two
abbrev pub CollectsJoined : {S : Type 0} → (S → Option AsciiStr → S → Type 0) → List ℕ → S
    → List ℕ → Type 0
CollectsJoined steps separator iter text = (views : List AsciiStr) × Drains steps iter views
    × (text ≡ join_by text_of separator views)

-- ---- cited by private functions only

-- `codes` begins with the codes of `count` items that the iterator yielded, from its state `old`
-- on. If `codes` has room for more, the iterator has no further item.
pub record Fills {S A : Type 0} (steps : S → Option A → S → Type 0) (code : A → ℕ)
    (old new : S) (codes : List ℕ) (count : ℕ) : Type 0 where
  pub items : List A
  pub left : S
  pub gave : Yields steps old items left
  pub inside : count ≤ length codes
  pub start : take count codes ≡ map code items
  pub full : count ≡ length codes → left ≡ new
  pub ended : count < length codes → steps left None new

-- The first `taken` codes are appended. `Ok`: they are all of `codes`. `Err`: with the next one the
-- text would fit neither the old capacity nor `sure` codes. The capacity never shrinks.
pub record TakesFront {E : Type 0} (sure : ℕ) (codes : List ℕ) (old new : StringState)
    (result : Result (Unit {0}) E) : Type 0 where
  pub taken : ℕ
  pub text : new.text ≡ old.text ++ take taken codes
  pub ended : MatchResult result
      (λ _. taken ≡ length codes)
      (λ _. (taken < length codes) × (old.capacity < length old.text + taken + 1)
      × (sure < length old.text + taken + 1))
  pub capacity : old.capacity ≤ new.capacity
