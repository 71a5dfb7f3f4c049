-- A text that begins with, ends with or contains another, and what is left of it.
use Rattle.std.specs.Prelude.{◌≡◌, ℕ, List, [], ◌∷◌, ◌++◌, MatchOption, Option, length, map}
use Rattle.std.specs.List.{Contains}
use Rattle.ascii_base.specs.Case.{lower_image}
use Rattle.memchr.specs.Find.{OccursAt}
use Rattle.ascii.specs.declared.ascii_str.AsciiStr.{AsciiStr}
use Rattle.ascii.specs.View.{text_of}

-- `text` contains `needle`, at some position
abbrev pub ContainsText : List ℕ → List ℕ → Type 0
ContainsText needle text = (k : ℕ) × OccursAt text needle k

-- `image` maps a text character by character: it maps two texts, one after the other, to their
-- images in that order, and keeps the length
pub record IsByCodes (image : List ℕ → List ℕ) : Type 0 where
  pub joined : (a b : List ℕ) → image (a ++ b) ≡ image a ++ image b
  pub long : (text : List ℕ) → length (image text) ≡ length text

-- `text` is `prefix` followed by `rest`
abbrev pub IsPrefix : List ℕ → List ℕ → List ℕ → Type 0
IsPrefix prefix text rest = prefix ++ rest ≡ text

-- `text` is `rest` followed by `suffix`
abbrev pub IsSuffix : List ℕ → List ℕ → List ℕ → Type 0
IsSuffix suffix text rest = rest ++ suffix ≡ text

-- `text` begins with `prefix`
abbrev pub StartsWith : List ℕ → List ℕ → Type 0
StartsWith prefix text = (rest : List ℕ) × IsPrefix prefix text rest

-- `text` ends with `suffix`
abbrev pub EndsWith : List ℕ → List ℕ → Type 0
EndsWith suffix text = (rest : List ℕ) × IsSuffix suffix text rest

-- `None` if `Has` is not true; otherwise a view of the rest, of which `IsRest` is true
abbrev pub Strips : Type 0 → (List ℕ → Type 0) → Option AsciiStr → Type 0
Strips Has IsRest result = MatchOption result (¬ Has) (λ rest. IsRest (text_of rest))

-- `Is` is true of `other`, which is `text`, ignoring ASCII case
pub record IgnoringCase (Is : List ℕ → Type 0) (text : List ℕ) : Type 0 where
  pub other : List ℕ
  pub same : map lower_image other ≡ map lower_image text
  pub is : Is other

-- `text` is `before`, `between` and `after`, and `Is` is true of the two sides
pub record IsCut (Is : List ℕ → List ℕ → Type 0) (between text before after : List ℕ) : Type 0
  where
    pub joined : before ++ (between ++ after) ≡ text
    pub sides : Is before after

-- `None` if `Has` is not true; otherwise the two sides of a cut
abbrev pub SplitsOnce : Type 0 → (List ℕ → List ℕ → Type 0) → List ℕ → List ℕ
    → Option (AsciiStr × AsciiStr) → Type 0
SplitsOnce Has Is between text result = MatchOption result (¬ Has)
    (λ sides. IsCut Is between text (text_of sides.0) (text_of sides.1))

-- the cut of `text` at its first `on`: `before` does not contain it
abbrev pub IsCutAt : ℕ → List ℕ → List ℕ → List ℕ → Type 0
IsCutAt on = IsCut (λ before after. ¬ (Contains before on)) (on ∷ [])
