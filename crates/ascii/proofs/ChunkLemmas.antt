-- The chunks of bytes: that they are one list, and that loops see them in order.
use Rattle.std.proofs.Common.{◌≡◌, ◌≢◌, ℕ, ◌+◌, ◌-◌, List, [], ◌∷◌, ◌++◌, length, map, refl, sym}
use Rattle.std.proofs.Common.{ap, subst, ◌∙◌, arith, None, Option, append_assoc, reverse}
use Rattle.std.proofs.Common.{append-nil, get_or, length-append, Bool, not}
use mathlib.Core.List.{reverse-cons}
use Rattle.std.specs.List.{All, slice_get}
use Rattle.std.specs.Option.{IfSome}
use Rattle.std.specs.Iterator.{Yields}
use Rattle.std.specs.Iterator.Runs.{YieldsRun}
use Rattle.std.proofs.lemmas.List.Elements.{All-head}
use Rattle.ascii.specs.declared.chunks.AsciiChunk.{AsciiChunk}
use Rattle.ascii.specs.Chunks.{ChunksOf, HasOneListOfChunks, IsByteOf, IsFirstChunk, IsLastChunk}
use Rattle.ascii.specs.Chunks.{IsRun, LoopsBackOverChunks, LoopsOverChunks, Run, YieldsFirstChunk}
use Rattle.ascii.specs.Chunks.{YieldsLastChunk, chunk_in}
use Rattle.ascii.specs.Spans.{WithStart}
use Rattle.ascii.proofs.RunLemmas.{end_kept, last_code, last_of_all, one_span}

-- ---- the two kinds of bytes

other_kind : (a b : Bool) (byte : ℕ) → IsByteOf a byte → IsByteOf (not b) byte → not a ≡ b
other_kind a b byte is too = grind arith

past : (ascii : Bool) (o : Option ℕ) → IfSome o (IsByteOf (not ascii))
    → IfSome o (λ byte. ¬ (IsByteOf ascii byte))
past ascii o held = grind arith

same_run : (a b : Run) → a.ascii ≡ b.ascii → a.bytes ≡ b.bytes → a ≡ b
same_run a b kinds bytes = grind arith

chunk_at : (a b : WithStart Run) → a.start ≡ b.start → a.item ≡ b.item → a ≡ b
chunk_at a b starts items = grind arith

-- ---- one list of chunks

kinds_of : (a b : Bool) (s t x y : List ℕ) → s ++ x ≡ t ++ y → s ≢ [] → t ≢ []
    → All (IsByteOf a) s → All (IsByteOf b) t → a ≡ b
kinds_of a b [] t x y same some more front other = absurd (some refl)
kinds_of a b (c ∷ s) [] x y same some more front other = absurd (more refl)
kinds_of a b (c ∷ s) (d ∷ t) x y same some more front other = grind (arith, All-head)

-- the first chunk of a part, and what follows it, are the only ones
one_first_chunk : (part : WithStart (List ℕ)) (chunk : WithStart Run) (rest : WithStart (List ℕ))
    (other : WithStart Run) (left : WithStart (List ℕ)) → IsFirstChunk part chunk rest
    → IsFirstChunk part other left → (chunk ≡ other) × (rest ≡ left)
one_first_chunk part chunk rest other left is too =
    let run = chunk.item in
    let also = other.item in
    let same : run.bytes ++ rest.item ≡ also.bytes ++ left.item = is.joined ∙ sym too.joined in
    let kind = kinds_of run.ascii also.ascii run.bytes also.bytes rest.item left.item same
    is.is_run.some too.is_run.some is.is_run.one too.is_run.one in
    let cut = one_span (IsByteOf run.ascii) run.bytes also.bytes rest.item left.item same
    is.is_run.one (subst (λ k. All (IsByteOf k) also.bytes) (sym kind) too.is_run.one)
    (past run.ascii (slice_get rest.item 0) is.bounded) (grind (arith, past, not)) in (
      chunk_at chunk other (is.start ∙ sym too.start) (same_run run also kind cut.0),
      grind arith,
    )

empty : (s t : List ℕ) → s ≢ [] → s ++ t ≡ [] → ⊥
empty [] t some none = some refl
empty (c ∷ s) t some none = cc none

-- an empty part has no chunk
no_chunk : (part : WithStart (List ℕ)) (chunk : WithStart Run) (rest : WithStart (List ℕ))
    → IsFirstChunk part chunk rest → part.item ≡ [] → ⊥
no_chunk part chunk rest is none = grind (arith, empty)

pub ChunksOf-only : (part : WithStart (List ℕ)) → HasOneListOfChunks part
ChunksOf-only part [] [] held also = refl
ChunksOf-only part [] (chunk ∷ chunks) held also =
    absurd (no_chunk part chunk also.0 also.1 held)
ChunksOf-only part (chunk ∷ chunks) [] held also =
    absurd (no_chunk part chunk held.0 held.1 also)
ChunksOf-only part (chunk ∷ chunks) (other ∷ others) held also =
    let same = one_first_chunk part chunk held.0 other also.0 held.1 also.1 in
    let left = ChunksOf-only held.0 chunks others held.2
    (subst (λ r. ChunksOf r others) (sym same.1) also.2) in
    cc (same.0, left)

-- ---- a chunk more

head_of_run : (kind : Bool) (bytes : List ℕ) → bytes ≢ [] → All (IsByteOf kind) bytes
    → IfSome (slice_get bytes 0) (IsByteOf kind)
head_of_run kind [] some all = absurd (some refl)
head_of_run kind (c ∷ bytes) some all = All-head (IsByteOf kind) c bytes all

-- what follows the first run of a text begins with a byte of the other kind, also if the last run
-- of the whole comes next
border : (first last : Run) (front rest : List ℕ) → IsRun first → IsRun last
    → first.bytes ++ rest ≡ front → IfSome (slice_get rest 0) (IsByteOf (not first.ascii))
    → IfSome (slice_get front (length front - 1)) (IsByteOf (not last.ascii))
    → IfSome (slice_get (rest ++ last.bytes) 0) (IsByteOf (not first.ascii))
border first last front (c ∷ rest) is too joined bounded edge = bounded
border first last front [] is too joined bounded edge =
    let whole : front ≡ first.bytes = sym joined ∙ append-nil first.bytes in
    let End : List ℕ → Type 0 =
    λ t. IfSome (slice_get t (length t - 1)) (IsByteOf (not last.ascii)) in
    let at = last_code (IsByteOf (not last.ascii)) first.bytes is.some (subst End whole edge) in
    let kind = other_kind first.ascii last.ascii (get_or first.bytes (length first.bytes - 1) 0)
    (last_of_all (IsByteOf first.ascii) first.bytes is.some is.one) at in
    grind (arith, head_of_run)

-- the chunks of what comes before the last chunk, and the last chunk, are the chunks of the part
pub ChunksOf-push : (part : WithStart (List ℕ)) (chunk : WithStart Run)
    (front : WithStart (List ℕ)) (chunks : List (WithStart Run)) → ChunksOf front chunks
    → IsLastChunk part chunk front → ChunksOf part (chunks ++ chunk ∷ [])
ChunksOf-push part chunk front [] held is = (
  record { start = part.start + length chunk.item.bytes; item = [] },
  grind (arith, append-nil),
  refl,
)
ChunksOf-push part chunk front (first ∷ others) held is =
    let rest = held.0 in
    let cut = held.1 in
    let run = chunk.item in
    let after : WithStart (List ℕ) =
    record { start = rest.start; item = rest.item ++ run.bytes } in
    let long : length front.item ≡ length first.item.bytes + length rest.item =
    ap length (sym cut.joined) ∙ length-append first.item.bytes rest.item in (
      after,
      grind (arith, append_assoc, border),
      ChunksOf-push after chunk rest others held.2 (grind (arith, not, end_kept)),
    )

-- ---- loops

chunks_from_front : (taken : List AsciiChunk) (part left end : WithStart (List ℕ))
    → Yields YieldsFirstChunk part taken left → YieldsFirstChunk left None end
    → ChunksOf part (map chunk_in taken)
chunks_from_front [] part left end yields none = subst (λ p. p.item ≡ []) (sym yields) none.0
chunks_from_front (chunk ∷ taken) part left end yields none =
    (yields.0, yields.1, chunks_from_front taken yields.0 left end yields.2 none)

pub chunks_in_order : LoopsOverChunks
unfolding YieldsRun
chunks_in_order p seen whole =
    let none = p.gave.0.2 whole in
    chunks_from_front p.items p.from p.gave.0.0 none.0 p.gave.0.1 none.1

chunks_from_back : (taken : List AsciiChunk) (part left end : WithStart (List ℕ))
    → Yields YieldsLastChunk part taken left → YieldsLastChunk left None end
    → ChunksOf part (reverse (map chunk_in taken))
chunks_from_back [] part left end yields none = subst (λ p. p.item ≡ []) (sym yields) none.0
chunks_from_back (chunk ∷ taken) part left end yields none =
    subst (ChunksOf part) (sym (reverse-cons (chunk_in chunk) (map chunk_in taken)))
    (grind (arith, ChunksOf-push, reverse, chunks_from_back taken yields.0 left end yields.2 none))

pub chunks_in_reverse : LoopsBackOverChunks
unfolding YieldsRun
chunks_in_reverse p seen whole =
    let none = p.gave.0.2 whole in
    chunks_from_back p.items p.from p.gave.0.0 none.0 p.gave.0.1 none.1
