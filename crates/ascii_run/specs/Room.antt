-- A string with a capacity of at least the sure length.
use Rattle.std.specs.Prelude.{ℕ, max}
use Rattle.ascii.specs.StringState.{StringState}

-- the state of a string, with a capacity of at least the sure length
abbrev pub with_room : ℕ → StringState → StringState
with_room sure state = record { text = state.text; capacity = max sure state.capacity }
