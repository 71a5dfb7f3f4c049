use Rattle.std.proofs.Common.{◌-◌, arith}
use Rattle.std.proofs.lemmas.Simd.{length-put_chunk}
use Rattle.ascii_base.proofs.CaseLemmas.{map_chunk_more, mapped_whole}
use Rattle.ascii_base.proofs.kernels.map_by.Goals as goal

pub loop-at-preserved : goal.loop-at-preserved
loop-at-preserved g c = grind (arith, length-put_chunk, map_chunk_more)

pub returns : goal.returns
returns g c = grind (arith, mapped_whole)
