-- Runs of codes at the ends of a text.
use Rattle.std.proofs.Common.{◌≡◌, ◌≢◌, ℕ, ◌-◌, Bool, true, false, not, List, [], ◌∷◌, ◌++◌, take}
use Rattle.std.proofs.Common.{length, get_or, refl, arith}
use Rattle.std.specs.Option.{IfSome}
use Rattle.std.specs.List.{All, slice_get}
use Rattle.std.specs.Bool.{Decides}
use Rattle.std.proofs.lemmas.Bool.{cases_eq, cases_lt}
use Rattle.std.proofs.lemmas.Bool.Decides.{Decides-not}
use Rattle.std.proofs.lemmas.Grind.{common_steps}
use Rattle.std.proofs.lemmas.List.Elements.{All-get_or, All-head, All-tail}
use Rattle.std.proofs.lemmas.List.{get_or-take, length-take-le}
use Rattle.std.proofs.lemmas.Option.{slice_get-get_or, slice_get_past}
use Rattle.ascii_base.specs.Bytes.{IsOnSide}
use Rattle.ascii.specs.ByClass.{side_test}
use Rattle.ascii_base.specs.Runs.{EndsRun, StartsRun}
use Rattle.ascii_search.proofs.MarkedLemmas.{not_not}

-- ---- the last code

-- the last code of a text that ends with another, not empty, is that of the end
pub last_kept : (front t : List ℕ) → t ≢ []
    → get_or (front ++ t) (length (front ++ t) - 1) 0 ≡ get_or t (length t - 1) 0
last_kept front t some = grind (arith, common_steps)

-- the last code of a text that is not empty has what is true of the last one, if there is one
pub last_code : (P : ℕ → Type 0) (t : List ℕ) → t ≢ []
    → IfSome (slice_get t (length t - 1)) P → P (get_or t (length t - 1) 0)
last_code P [] some bounded = absurd (some refl)
last_code P (c ∷ t) some bounded = grind (arith, slice_get-get_or)

-- the last code of a text that is not empty has what is true of all
pub last_of_all : (P : ℕ → Type 0) (t : List ℕ) → t ≢ [] → All P t → P (get_or t (length t - 1) 0)
last_of_all P [] some all = absurd (some refl)
last_of_all P (c ∷ t) some all = All-get_or P (c ∷ t) (length (c ∷ t) - 1) 0 (omega arith) all

module _ (Is : ℕ → Type 0) where
  -- the part of a text after its first word ends as the text does
  pub end_kept : (front t : List ℕ) → t ≢ []
      → IfSome (slice_get (front ++ t) (length (front ++ t) - 1)) Is
      → IfSome (slice_get t (length t - 1)) Is
  end_kept front t some bounded =
      grind (arith, common_steps, last_kept, last_code, cases_lt, slice_get-get_or, slice_get_past)

-- a text is cut in one way into codes with a property and what begins with a code without it
pub one_span : (P : ℕ → Type 0) (a b x y : List ℕ) → a ++ x ≡ b ++ y → All P a → All P b
    → IfSome (slice_get x 0) (λ c. ¬ (P c)) → IfSome (slice_get y 0) (λ c. ¬ (P c))
    → (a ≡ b) × (x ≡ y)
one_span P [] [] x y same front other left right = (refl, same)
one_span P [] (c ∷ b) x y same front other left right = grind (arith, All-head)
one_span P (c ∷ a) [] x y same front other left right = grind (arith, All-head)
one_span P (c ∷ a) (d ∷ b) x y same front other left right =
    let head : c ≡ d = cc in
    let tails : a ++ x ≡ b ++ y = cc in
    let is = one_span P a b x y tails (All-tail P c a front) (All-tail P d b other) left right in
    (cc (head, is.0), is.1)

-- ---- a run on a side of a class, as a run of that side and as one outside the other side
module _ (Is : ℕ → Type 0) where
  pub ends_gap : (side : Bool) (text : List ℕ) (from end : ℕ)
      → EndsRun Is side text from end → EndsRun (IsOnSide Is side) true text from end
  ends_gap side text from end run = grind arith

  pub ends_word : (side : Bool) (text : List ℕ) (from end : ℕ)
      → EndsRun Is side text from end → EndsRun (IsOnSide Is (not side)) false text from end
  ends_word side text from end run = grind arith

  pub starts_gap : (side : Bool) (text : List ℕ) (to start : ℕ)
      → StartsRun Is side text to start → StartsRun (IsOnSide Is side) true text to start
  starts_gap side text to start run = grind arith

  pub starts_word : (side : Bool) (text : List ℕ) (to start : ℕ)
      → StartsRun Is side text to start → StartsRun (IsOnSide Is (not side)) false text to start
  starts_word side text to start run = grind arith

  -- the run before a gap, with its last code, in the text up to the gap
  pub starts_last : (side : Bool) (text : List ℕ) (end start : ℕ)
      → StartsRun Is (not side) text (length text) end → end ≢ 0
      → StartsRun Is side text (end - 1) start
      → StartsRun Is side (take end text) (length (take end text)) start
  starts_last side text end start gap some run =
      grind (arith, length-take-le, get_or-take, cases_eq, not_not, not)

  -- the test of a side decides it
  pub side_decides : (test : ℕ → Bool) → ((n : ℕ) → Decides (test n) (Is n)) → (side : Bool) (n : ℕ)
      → Decides (side_test test side n) (IsOnSide Is side n)
  side_decides test decides true n = decides n
  side_decides test decides false n = Decides-not (test n) (decides n)
