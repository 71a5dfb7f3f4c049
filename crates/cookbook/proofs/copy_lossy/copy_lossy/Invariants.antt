use Rattle.std.proofs.Common.{◌≡◌, map}
use Rattle.std.specs.List.{flat_map}
use Rattle.ascii.specs.Chunks.{chunk_in}
use Rattle.cookbook.specs.Lossy.{marked_run}
use Rattle.cookbook.proofs.copy_lossy.copy_lossy.Given as goal

abbrev pub invariant-loop-chunk : goal.invariant-loop-chunk
invariant-loop-chunk l = l.copy.text ≡ flat_map marked_run (map chunk_in l.yielded)
