use Rattle.ascii.proofs.ChunkLemmas.{ChunksOf-only, chunks_in_order, chunks_in_reverse}
use Rattle.ascii.proofs.chunks.ascii_chunks.Goals as goal

pub returns-clause-one : goal.returns-clause-one
returns-clause-one c = ChunksOf-only _

pub returns-clause-loops : goal.returns-clause-loops
returns-clause-loops c = chunks_in_order

pub returns-clause-loops_back : goal.returns-clause-loops_back
returns-clause-loops_back c = chunks_in_reverse
