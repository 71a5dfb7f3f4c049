-- Bytes that were copied to a position of a buffer. Only private functions cite it.
use Rattle.std.specs.Prelude.{◌≡◌, ℕ, ◌+◌, List, ◌++◌, length, take}

-- in `new`, the first `at` bytes of `old` are followed by `bytes`, up to the position `end`
pub record CopiesTo (old new : List ℕ) (at : ℕ) (bytes : List ℕ) (end : ℕ) : Type 0 where
  pub front : take end new ≡ take at old ++ bytes
  pub moved : end ≡ at + length bytes
  pub size : length new ≡ length old
