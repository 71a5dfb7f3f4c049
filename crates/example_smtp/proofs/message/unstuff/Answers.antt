use Rattle.std.proofs.Common.{◌≡◌, ℕ, List, [], ◌∷◌, ap, arith, refl, sym}
use Rattle.std.proofs.lemmas.Bool.Decides.{nat_tests}
use Rattle.ascii.specs.Search.{StartsWith}
use Rattle.ascii.specs.View.{text_of}
use Rattle.example_smtp.specs.Mail.{unstuffed}
use Rattle.example_smtp.proofs.message.unstuff.Goals as goal

-- a line that does not begin with a dot
plain : (text : List ℕ) → ¬ (StartsWith (46 ∷ []) text) → text ≡ unstuffed text
plain [] none = refl
plain (code ∷ rest) none =
    let other : ¬ (code ≡ 46) = λ is. none (rest, ap (λ c. c ∷ rest) (sym is)) in
    grind (arith, nat_tests, other)

pub returns-in-None : goal.returns-in-None
returns-in-None c = plain (text_of c.args.sent) (rw c.literal.ensures at c.in-None.ensures)
