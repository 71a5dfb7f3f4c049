-- What a `FoldedMap` ends as, once a `&mut` into it has ended.
use Rattle.std.specs.Borrow.{Fml, LendsSoOk, MutBor, RattleType}
use Rattle.std.specs.Prelude.{◌≡◌, ℕ, List, Result}
use Rattle.ascii_keys.specs.Maps.{Entries, Puts}
use Rattle.ascii_keys.specs.contracts.maps.FoldedMap.{the_row}

-- the map has at `key` the last value written through `r`, and is unchanged after an error
abbrev pub lends_put : (V : RattleType) {E : Type 0} → MutBor (Entries V.Denot) → List ℕ
    → Result (MutBor V.Denot) E → Fml
lends_put V map key r = LendsSoOk (the_row V) V map r
    (λ new value. Puts map.now key value new) (λ new. new ≡ map.now)
