-- The chunks of bytes: their longest runs of ASCII bytes and of other bytes, with their starts.
use Rattle.std.specs.Prelude.{◌≡◌, ◌≢◌, ℕ, ◌+◌, ◌-◌, ◌<◌, List, [], ◌∷◌, ◌++◌, IfSome, MatchOption}
use Rattle.std.specs.Prelude.{Bool, true, false, not, Option, length, map, reverse, slice_get}
use Rattle.std.specs.List.{All}
use Rattle.std.specs.Iterator.Runs.{EveryRun}
use Rattle.ascii.specs.declared.chunks.AsciiChunk.{AsciiChunk}
use Rattle.ascii.specs.declared.chunks.ByteRun.{ByteRun}
use Rattle.ascii.specs.declared.chunks.ByteRun.TheVariants.{Ascii, Other}
use Rattle.ascii_base.specs.Bytes.{IsOnSide}
use Rattle.ascii.specs.Spans.{WithStart}
use Rattle.ascii.specs.View.{text_of}

-- a run of bytes, and whether they are ASCII
pub record Run : Type 0 where
  pub ascii : Bool
  pub bytes : List ℕ

-- the run of a chunk
abbrev pub run_in : ByteRun → Run
run_in (Ascii text) = record { ascii = true; bytes = text_of text }
run_in (Other bytes) = record { ascii = false; bytes = bytes.now }

-- a chunk as a run with its start
abbrev pub chunk_in : AsciiChunk → WithStart Run
chunk_in chunk = record { start = chunk.start; item = run_in chunk.run }

-- the byte is ASCII if `ascii` is true, and is not if `ascii` is false
abbrev pub IsByteOf : Bool → ℕ → Type 0
IsByteOf ascii = IsOnSide (λ byte. byte < 128) ascii

-- the run is not empty, and its bytes are all ASCII, or none of them is
pub record IsRun (run : Run) : Type 0 where
  pub some : run.bytes ≢ []
  pub one : All (IsByteOf run.ascii) run.bytes

-- `chunk` is the first run of `part`, as long as can be, and `rest` is what follows it
pub record IsFirstChunk (part : WithStart (List ℕ)) (chunk : WithStart Run)
    (rest : WithStart (List ℕ)) : Type 0 where
  pub joined : chunk.item.bytes ++ rest.item ≡ part.item
  pub is_run : IsRun chunk.item
  pub bounded : IfSome (slice_get rest.item 0) (IsByteOf (not chunk.item.ascii))
  pub start : chunk.start ≡ part.start
  pub after : rest.start ≡ part.start + length chunk.item.bytes

-- `chunk` is the last run of `part`, as long as can be, and `rest` is what comes before it
pub record IsLastChunk (part : WithStart (List ℕ)) (chunk : WithStart Run)
    (rest : WithStart (List ℕ)) : Type 0 where
  pub joined : rest.item ++ chunk.item.bytes ≡ part.item
  pub is_run : IsRun chunk.item
  pub bounded :
      IfSome (slice_get rest.item (length rest.item - 1)) (IsByteOf (not chunk.item.ascii))
  pub start : chunk.start ≡ part.start + length rest.item
  pub before : rest.start ≡ part.start

-- `chunks` are the chunks of `part`, in order: joined they are its bytes
abbrev pub ChunksOf : WithStart (List ℕ) → List (WithStart Run) → Type 0
ChunksOf part [] = part.item ≡ []
ChunksOf part (chunk ∷ chunks) =
    (rest : WithStart (List ℕ)) × IsFirstChunk part chunk rest × ChunksOf rest chunks

-- at most one list is the chunks of `part`
abbrev pub HasOneListOfChunks : WithStart (List ℕ) → Type 0
HasOneListOfChunks part = (chunks others : List (WithStart Run))
    → ChunksOf part chunks → ChunksOf part others → others ≡ chunks

-- ---- steps of an iterator that has yet to yield the chunks of a part

-- `None` if `part` is empty; otherwise its first chunk, and the chunks of `rest` remain
abbrev pub YieldsFirstChunk
    : WithStart (List ℕ) → Option AsciiChunk → WithStart (List ℕ) → Type 0
YieldsFirstChunk part result rest = MatchOption result ((part.item ≡ []) × (rest ≡ part))
    (λ chunk. IsFirstChunk part (chunk_in chunk) rest)

-- `None` if `part` is empty; otherwise its last chunk, and the chunks of `rest` remain
abbrev pub YieldsLastChunk
    : WithStart (List ℕ) → Option AsciiChunk → WithStart (List ℕ) → Type 0
YieldsLastChunk part result rest = MatchOption result ((part.item ≡ []) × (rest ≡ part))
    (λ chunk. IsLastChunk part (chunk_in chunk) rest)

-- a loop or a chain that runs to the end sees the chunks in order
abbrev pub LoopsOverChunks : Type 0
LoopsOverChunks = EveryRun YieldsFirstChunk
    (λ p. p.whole ≡ true → ChunksOf p.from (map chunk_in p.items))

-- a loop or a chain from the back that runs to the end sees the chunks in reverse
abbrev pub LoopsBackOverChunks : Type 0
LoopsBackOverChunks = EveryRun YieldsLastChunk
    (λ p. p.whole ≡ true → ChunksOf p.from (reverse (map chunk_in p.items)))
