-- A text without its leading or trailing codes of a class.
use Rattle.std.specs.Prelude.{◌≡◌, ℕ, ◌-◌, List, ◌++◌, length, slice_get, All, IfSome}

-- `text` is `front` followed by `rest`; `front` is in the class `Is`, and `rest` does not begin
-- with a code of the class
pub record IsSpan (Is : ℕ → Type 0) (text front rest : List ℕ) : Type 0 where
  pub joined : front ++ rest ≡ text
  pub within : All Is front
  pub bounded : IfSome (slice_get rest 0) (λ first. ¬ (Is first))

-- `m` is `t` without its leading codes of the class `Is`
pub record TrimsStart (Is : ℕ → Type 0) (t m : List ℕ) : Type 0 where
  pub cut : List ℕ
  pub span : IsSpan Is t cut m

-- `m` is `t` without its trailing codes of the class `Is`
pub record TrimsEnd (Is : ℕ → Type 0) (t m : List ℕ) : Type 0 where
  pub cut : List ℕ
  pub joined : m ++ cut ≡ t
  pub within : All Is cut
  pub bounded : IfSome (slice_get m (length m - 1)) (λ last. ¬ (Is last))

-- `m` is `t` without its leading and then without its trailing codes of the class `Is`
abbrev pub Trims : (ℕ → Type 0) → List ℕ → List ℕ → Type 0
Trims Is t m = (mid : List ℕ) × TrimsStart Is t mid × TrimsEnd Is mid m
