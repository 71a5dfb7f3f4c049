use Rattle.std.proofs.Common.{◌≡◌, ◌∷◌, Bor, List, MatchOption, None, Option, Some, length, ℕ}
use Rattle.std.specs.Slice.Iter.{iter_rest}
use Rattle.std.specs.Str.{IsAscii}
use Rattle.std.proofs.lemmas.Str.{IsAscii-drop}
use Rattle.ascii.proofs.iter.chars.CharsIterator.next.Goals as goal

-- what a step leaves is ASCII as before
stays : {S : Type 0} (rest : S → List ℕ) (r : Option (Bor ℕ)) (s t : S)
    → MatchOption r ((length (rest s) ≡ 0) × (t ≡ s)) (λ x. rest s ≡ x.now ∷ rest t)
    → IsAscii (rest s) → IsAscii (rest t)
stays rest None s t is ascii = rw is.1 ascii
stays rest (Some x) s t is ascii = rw is at (IsAscii-drop (rest s) 1 ascii)

pub invariant_of-self-inside : goal.invariant_of-self-inside
invariant_of-self-inside c =
    (stays iter_rest c.next.result _ _ c.next.ensures.steps c.self.inside.ascii, tt)

pub from_ascii_unchecked-requires : goal.from_ascii_unchecked-requires
from_ascii_unchecked-requires c = rw c.in_ok-first.ensures.steps at (c.self.inside.ascii 0)
