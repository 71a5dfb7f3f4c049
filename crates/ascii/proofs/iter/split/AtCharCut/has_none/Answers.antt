use Rattle.std.proofs.Common.{arith}
use Rattle.ascii.proofs.CutLaws.{has_some}
use Rattle.ascii.proofs.PiecesLemmas.{slice_split-some}
use Rattle.ascii.proofs.SpansLemmas.{with_starts-some}
use Rattle.ascii.proofs.iter.split.AtCharCut.has_none.Goals as goal

pub returns : goal.returns
returns c = grind (arith, has_some, with_starts-some, slice_split-some)
