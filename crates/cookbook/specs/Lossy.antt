-- A text from bytes that may not be ASCII, with a mark where other bytes are.
use Rattle.std.specs.Prelude.{◌≡◌, ℕ, List, [], ◌∷◌, cond}
use Rattle.std.specs.List.{flat_map}
use Rattle.ascii.specs.Chunks.{ChunksOf, Run}
use Rattle.ascii.specs.Spans.{WithStart}

-- the codes for a run: its bytes if they are ASCII, and otherwise a question mark
abbrev pub marked_run : WithStart Run → List ℕ
marked_run chunk = cond chunk.item.ascii chunk.item.bytes (63 ∷ [])

-- `text` is the chunks of `source` in order, with a question mark for each run that is not ASCII
abbrev pub IsLossyCopy : List ℕ → List ℕ → Type 0
IsLossyCopy source text = (chunks : List (WithStart Run))
    × ChunksOf (record { start = 0; item = source }) chunks
    × (text ≡ flat_map marked_run chunks)
