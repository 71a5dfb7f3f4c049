-- Texts in lower case.
use Rattle.std.specs.Prelude.{◌≡◌, ℕ, List, map}
use Rattle.std.specs.Cmp.Lexicographic.{slice_cmp}
use Rattle.std.specs.Ordering.{nat_cmp}
use Rattle.std.specs.declared.cmp.Ordering.{Ordering}
use Rattle.ascii.specs.Case.{lower_image}

-- a text in lower case
abbrev pub lower_text : List ℕ → List ℕ
lower_text text = map lower_image text

-- `a` and `b` are equal, ignoring ASCII case
abbrev pub EqIgnoringCase : List ℕ → List ℕ → Type 0
EqIgnoringCase a b = lower_text a ≡ lower_text b

-- the order of two texts in lower case
abbrev pub order_ignoring_case : List ℕ → List ℕ → Ordering
order_ignoring_case a b = slice_cmp nat_cmp (lower_text a) (lower_text b)
