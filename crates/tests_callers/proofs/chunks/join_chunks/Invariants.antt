use Rattle.std.proofs.Common.{◌≡◌, map}
use Rattle.std.specs.List.{flat_map}
use Rattle.ascii.specs.Chunks.{chunk_in}
use Rattle.tests_callers.proofs.chunks.join_chunks.Given as goal

-- the bytes of the chunks so far
abbrev pub invariant-loop-chunk : goal.invariant-loop-chunk
invariant-loop-chunk l =
    l.joined.items ≡ flat_map (λ chunk. chunk.item.bytes) (map chunk_in l.yielded)
