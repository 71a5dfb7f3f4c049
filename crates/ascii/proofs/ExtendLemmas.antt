-- What a string takes from an iterator, and from one that gives a known list.
use Rattle.std.proofs.Common.{◌≡◌, ℕ, zero, suc, ◌+◌, ◌≤◌, List, [], ◌∷◌, ◌++◌, length, map, take}
use Rattle.std.proofs.Common.{◌<◌, Option, None, Some, Ok, Err, Result, IfOk, OnOk, IsOk, arith}
use Rattle.std.proofs.Common.{length-append, refl, sym, ap, ◌∙◌}
use Rattle.std.specs.Iterator.{Drains, Yields}
use Rattle.std.specs.List.{flat_map, join_by}
use Rattle.std.proofs.lemmas.Grind.{common_steps, flat_map-append}
use Rattle.std.proofs.lemmas.Iterator.{YieldsList}
use Rattle.std.proofs.lemmas.Iterator.Consumers.{YieldsList-end, YieldsList-so_far, YieldsList-turn}
use Rattle.std.proofs.lemmas.List.{length-map, length-take-le}
use Rattle.std.proofs.lemmas.List.{map-append, map-id, take-map, take_all}
use Rattle.std.proofs.lemmas.List.Concat.{flat_map_single}
use Rattle.std.proofs.lemmas.List.Folds.{flat_map-map, length-flat_map-take}
use Rattle.ascii.specs.StringState.{StringState}
use Rattle.ascii.specs.View.{text_of}
use Rattle.ascii.specs.declared.ascii_str.AsciiStr.{AsciiStr}
use Rattle.ascii.specs.Extend.{Extends, Fills, TakesFront, YieldsPast}

-- the pieces of the items so far, and the next piece did not fit
pub Extends-refused : {S A E : Type 0} {sure : ℕ} (steps : S → Option A → S → Type 0) (piece : A → List ℕ)
    (iter : S) (old mid new : StringState)
    (items : List A) (left : S) (refused : A) (after : S) (result : Result (Unit {0}) E)
    (e : E) → result ≡ Err e
    → Yields steps iter items left → steps left (Some refused) after
    → mid.text ≡ old.text ++ flat_map piece items → old.capacity ≤ mid.capacity
    → new.text ≡ mid.text → mid.capacity < length (mid.text ++ piece refused)
    → sure < length (mid.text ++ piece refused)
    → Extends sure steps piece iter old new result
Extends-refused {S} {A} {E} {sure} steps piece iter old mid new items left refused after result e is gave
    next so_far room stays full beyond = grind (arith, common_steps, flat_map-append)

module _ {S A : Type 0} (steps : S → Option A → S → Type 0) where
  pub yields_both : (xs ys : List A) (s t u : S) → Yields steps s xs t → Yields steps t ys u
      → Yields steps s (xs ++ ys) u
  yields_both [] ys s t u same after = rw same after
  yields_both (x ∷ xs) ys s t u before after =
      (before.0, before.1, yields_both xs ys before.0 t u before.2 after)

  -- the state after the first items of a run, and the next item
  next_of : (xs : List A) (k : ℕ) (s t : S) → k < length xs → Yields steps s xs t
      → (left : S) × (x : A) × (after : S)
      × Yields steps s (take k xs) left × steps left (Some x) after
  next_of [] k s t inside run = absurd (omega (arith, inside))
  next_of (x ∷ xs) zero s t inside run = (s, x, run.0, refl, run.1)
  next_of (x ∷ xs) (suc k) s t inside run =
      grind (arith, next_of xs k run.0 t (omega (arith, inside)) run.2)

  module _ (code : A → ℕ) where
    -- the codes of the items that an iterator has yielded so far are appended
    pub record Gathers (iter left : S) (old now : StringState) : Type 0 where
      pub items : List A
      pub gave : Yields steps iter items left
      pub text : now.text ≡ old.text ++ map code items
      pub capacity : old.capacity ≤ now.capacity

    module _ {sure : ℕ} (iter mid next : S) (old now new : StringState) (codes : List ℕ) (count : ℕ)
        (before : Gathers iter mid old now) (run : Fills steps code mid next codes count) where
      gathers_run : {E : Type 0} (u : Unit {0})
          → TakesFront {E = E} sure (take count codes) now new (Ok u)
          → Gathers iter run.left old new
      gathers_run {E} u front = grind (arith, yields_both, common_steps, map-append, take_all)

      -- the array is full, and the iterator may go on
      pub gathers_more : {E : Type 0} (u : Unit {0})
          → TakesFront {E = E} sure (take count codes) now new (Ok u)
          → count ≡ length codes → Gathers iter next old new
      gathers_more {E} u front full = rw (run.full full) at (gathers_run u front)

      -- the array is not full, so the iterator has ended
      pub Extends-gathered : {E : Type 0} (u : Unit {0})
          → TakesFront {E = E} sure (take count codes) now new (Ok u)
          → count < length codes → Extends {E = E} sure steps (λ x. code x ∷ []) iter old new (Ok u)
      Extends-gathered {E} u front short = grind (arith, gathers_run u front, flat_map_single)

      -- a code of the array did not fit
      pub Extends-front : {E : Type 0} (result : Result (Unit {0}) E) (e f : E)
          → result ≡ Err e → TakesFront sure (take count codes) now new (Err f)
          → Extends sure steps (λ x. code x ∷ []) iter old new result
      Extends-front {E} result e f is front =
          let inside : front.taken < length run.items = grind (arith, length-map) in
          let stop = next_of run.items front.taken mid run.left inside run.gave in
          let items = before.items ++ take front.taken run.items in
          let size : length (old.text ++ flat_map (λ x. code x ∷ []) (items ++ stop.1 ∷ []))
          ≡ length now.text + front.taken + 1 =
          grind (arith, length-append, length-map, length-take-le, flat_map_single) in
          grind (arith, yields_both, flat_map_single, common_steps, map-append, take-map)

-- the pieces of the items up to the one that did not fit are longer than the sure length
pub yields_past : {S A E : Type 0} {sure : ℕ} (steps : S → Option A → S → Type 0)
    (piece : A → List ℕ) (iter : S) (old new : StringState) (e : E) → old.text ≡ []
    → Extends sure steps piece iter old new (Err e)
    → YieldsPast sure steps (flat_map piece) iter
yields_past {sure} steps piece iter old new e none extends = grind (arith, yields_both)

-- views with separators up to one that did not fit, or whose separator did not, are longer than the
-- sure length
pub joined_past : {S : Type 0} (steps : S → Option AsciiStr → S → Type 0) (separator : List ℕ)
    (sure : ℕ) (iter mid left next : S) (first view : AsciiStr) (views : List AsciiStr)
    → steps iter (Some first) mid → Yields steps mid views left → steps left (Some view) next
    → sure < length (join_by text_of separator (first ∷ views)) + length separator
    + length (text_of view)
    → YieldsPast sure steps (join_by text_of separator) iter
joined_past steps separator sure iter mid left next first view views starts gave more beyond =
    let join : AsciiStr → List ℕ = λ view. separator ++ text_of view in
    let long : length (flat_map join (views ++ view ∷ []))
    ≡ length (flat_map join views) + length separator + length (text_of view) =
    simp (flat_map-append, length-append) (omega arith) in (
      first ∷ (views ++ view ∷ []),
      next,
      (mid, starts, yields_both steps views (view ∷ []) mid left next gave (next, more, refl)),
      simp length-append (omega (arith, long, simp length-append at beyond)),
    )

-- codes one by one are the text
pub singles : (codes : List ℕ) → flat_map (λ code. code ∷ []) codes ≡ codes
singles codes = flat_map_single (λ code. code) codes ∙ map-id codes

-- what follows from what an Ok says
pub if_ok : {T E : Type 0} {P Q : T → Type 0} (result : Result T E) → IfOk result P
    → ((x : T) → P x → Q x) → IfOk result Q
if_ok result p follows = grind arith

-- the pieces of the items that an iterator gave before it ended are those of the whole list
pub pieces_from_drains : {S A B : Type 0} {steps : S → Option A → S → Type 0} {v : A → B}
    {iter : S} {all : List B} (h : B → List ℕ) (items : List A)
    → Drains steps iter items → YieldsList steps v iter all
    → flat_map (λ x. h (v x)) items ≡ flat_map h all
pieces_from_drains {S} {A} {B} {steps} {v} {iter} {all} h items drained road =
    let ended = YieldsList-end road items drained.1.0 drained.1.1 None drained.0 refl drained.1.2 in
    sym (flat_map-map h v items) ∙ ap (flat_map h) ended.0

module _ {S A B E : Type 0} {steps : S → Option A → S → Type 0} {v : A → B} {iter : S}
    {all : List B} {sure : ℕ} (h : B → List ℕ) (old new : StringState) where
  -- at Ok the whole list went in
  pub all_from_extends : (result : Result (Unit {0}) E)
      → Extends sure steps (λ x. h (v x)) iter old new result → YieldsList steps v iter all
      → OnOk result (new.text ≡ old.text ++ flat_map h all)
  all_from_extends result e road = grind (arith, pieces_from_drains)

  -- at Err as at Ok a front of the list went in
  pub front_from_extends : (result : Result (Unit {0}) E)
      → Extends sure steps (λ x. h (v x)) iter old new result → YieldsList steps v iter all
      → (n : ℕ) × (new.text ≡ old.text ++ flat_map h (take n all))
  front_from_extends result e road =
      grind (arith, flat_map-map h v e.items, YieldsList-so_far road e.items e.left e.gave)

  -- for a list that fits the capacity no allocation is needed
  pub ok_from_extends : (result : Result (Unit {0}) E)
      → Extends sure steps (λ x. h (v x)) iter old new result → YieldsList steps v iter all
      → length old.text + length (flat_map h all) ≤ old.capacity → IsOk result
  ok_from_extends (Ok x) e road fits = refl
  ok_from_extends (Err x) e road fits =
      let refused = e.ended.0 in
      let turn = YieldsList-turn road e.items e.left e.gave (Some refused) e.ended.1 refused refl
      e.ended.2 in
      let before : flat_map (λ x. h (v x)) e.items ≡ flat_map h (take (length e.items) all) =
      sym (flat_map-map h v e.items)
      ∙ ap (flat_map h) (YieldsList-so_far road e.items e.left e.gave) in
      grind (arith, length-flat_map-take, flat_map-append, length-append)
