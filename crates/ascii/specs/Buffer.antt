-- The buffers of a text.
use Rattle.std.specs.Prelude.{ℕ, List}
use Rattle.std.specs.Borrow.{Lends, Fml, RattleType, MutBor, Array, u8}

-- once the borrow `r` ends, the buffer is what `with` makes of the bytes that `r` shows last
abbrev pub LendsBytes : (B : RattleType) → (B.Denot → List ℕ → B.Denot) → MutBor B.Denot
    → MutBor (List ℕ) → Fml
LendsBytes B with buffer r = Lends B (Array u8 0) buffer r (with buffer.now)
