-- The mode `Caret`: the codes that caret notation writes as themselves.
use Rattle.std.specs.Prelude.{◌&&◌, ◌||◌, Bool, not}
use Rattle.std.specs.Bool.{Decides}
use Rattle.std.proofs.Common.{arith, eqb, inl, inr, leb, refl, subst, sym}
use Rattle.std.proofs.lemmas.Bool.{leb-true, le-leb}
use Rattle.std.proofs.lemmas.Bool.Decides.{Decides-and, Decides-eqb, Decides-not, Decides-or}
use Rattle.std.proofs.lemmas.Bool.Decides.{nat_tests}
use Rattle.std.specs.Prelude.{◌≡◌, ◌≢◌, ℕ, ◌≤◌, ◌⊎◌, [], ◌∷◌}
use Rattle.ascii.specs.Notations.{caret_text}

-- `caret` shows the code as itself: it is LF, or at least 32 and not 127
abbrev pub IsShown : ℕ → Type 0
IsShown n = (n ≡ 10) ⊎ ((32 ≤ n) × (n ≢ 127))

-- the test of these codes, and that it decides them
abbrev pub is_shown : ℕ → Bool
is_shown n = eqb n 10 || leb 32 n && not (eqb n 127)

pub is_shown-decides : (n : ℕ) → Decides (is_shown n) (IsShown n)
is_shown-decides n = Decides-or (eqb n 10) (leb 32 n && not (eqb n 127)) (Decides-eqb n 10)
    (Decides-and (leb 32 n) (not (eqb n 127)) (leb-true 32 n, le-leb 32 n)
    (Decides-not (eqb n 127) (Decides-eqb n 127)))

-- such a code is shown as itself
pub caret_plain : (n : ℕ) → IsShown n → caret_text n ≡ n ∷ []
caret_plain n (inl is) = subst (λ k. caret_text k ≡ k ∷ []) (sym is) refl
caret_plain n (inr (low, other)) = grind (arith, nat_tests)
