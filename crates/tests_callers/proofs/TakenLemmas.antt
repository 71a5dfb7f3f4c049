-- What a collection of the first items of an iterator has.
use Rattle.std.proofs.Common.{◌≡◌, List, None, Option, map, refl, take, ℕ}
use Rattle.std.specs.Iterator.{DrainsIf}
use Rattle.std.specs.Iterator.Adapters.{take_count, take_source, take_steps}
use Rattle.std.proofs.lemmas.Iterator.{YieldsList, YieldsList-from_take}
use Rattle.std.proofs.lemmas.Iterator.Consumers.{YieldsList-end}

-- the first n of a list that an iterator gives
pub taken : {S A B : Type 0} {steps : S → Option A → S → Type 0} {v : A → B} {all : List B}
    (n : ℕ) (s : _) (xs : List A)
    → YieldsList steps v (take_source s) all → take_count s ≡ n
    → DrainsIf (take_steps steps) (Unit {0}) s xs → map v xs ≡ take n all
taken n s xs road count drained =
    let ended = drained.2 tt in
    (YieldsList-end (YieldsList-from_take n road count) xs drained.0 drained.1 None ended.0 refl
    ended.1).0
