-- What an `AsciiMap` ends as, once a `&mut` into it has ended.
use Rattle.std.specs.Borrow.{Fml, LendsSo, MutBor, RattleType}
use Rattle.std.specs.Prelude.{◌≡◌, ℕ, List, OnSome, Option}
use Rattle.ascii_keys.specs.Maps.{Entries, Writes}
use Rattle.ascii_keys.specs.contracts.maps.AsciiMap.{the_row}

-- the map has at `key` the last value written through `r`, and is unchanged if there is none
abbrev pub lends_at : (V : RattleType) → MutBor (Entries V.Denot) → List ℕ
    → Option (MutBor V.Denot) → Fml
lends_at V map key r = LendsSo (the_row V) V map r
    (λ new value. OnSome r (Writes map.now key value new)) (λ new. new ≡ map.now)
