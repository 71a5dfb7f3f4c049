-- Positions in bytes, as C gets them.
use Rattle.std.specs.Prelude.{ℕ, List, [], ◌∷◌, ◌≡◌, ◌⊎◌, ◌≤◌, ◌<◌, length, take, None, Some}
use Rattle.memchr.specs.Find.{FindsNeedle}
use Rattle.ascii.specs.Lines.{LinesOf}
use Rattle.ascii.specs.declared.iter.spans.Ending.{Ending}
use Rattle.ascii.specs.declared.iter.spans.Ending.TheVariants.{Absent}

-- `i` is the position of the first `needle`, or the length of the text if it has none
abbrev pub FindsOrEnd : List ℕ → List ℕ → ℕ → Type 0
FindsOrEnd text needle i = FindsNeedle text needle 0 (Some i)
    ⊎ (FindsNeedle text needle 0 None × (i ≡ length text))

-- the first `next` bytes of the text are its first line, of which the first `body` come before the
-- ending; if there is no ending, no byte comes after the line
pub record IsFirstLine (text : List ℕ) (body next : ℕ) : Type 0 where
  pub some : 0 < next
  pub inside : next ≤ length text
  pub ending : Ending
  pub line : LinesOf (take next text) (record { body = take body text; ending = ending } ∷ [])
  pub last : ending ≡ Absent → next ≡ length text
