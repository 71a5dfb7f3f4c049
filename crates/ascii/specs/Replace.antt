-- A text with another text in place of each occurrence of a needle.
use Rattle.std.specs.Prelude.{ℕ, ◌+◌, List, ◌++◌, Some, None, length, take, drop}
use Rattle.memchr.specs.Find.{FindsNeedle}

-- `Replaces from to text out`: `out` is `text` with `to` in place of each occurrence of `from`,
-- found from the left, each after the end of the one before
pub data Replaces (from to : List ℕ) : List ℕ → List ℕ → Type 0 where
  unchanged : (text : List ℕ) → FindsNeedle text from 0 None → Replaces from to text text
  first : (text out : List ℕ) (k : ℕ) → FindsNeedle text from 0 (Some k)
      → Replaces from to (drop (k + length from) text) out
      → Replaces from to text (take k text ++ (to ++ out))
