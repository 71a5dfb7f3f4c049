use Rattle.std.proofs.Common.{arith}
use Rattle.ascii.proofs.PiecesLemmas.{Pieces-only, Pieces-pieces_of}
use Rattle.ascii.proofs.ascii_str.AsciiStr.split.Goals as goal

pub returns-clause-walks : goal.returns-clause-walks
returns-clause-walks c = grind arith

pub returns-clause-iterates : goal.returns-clause-iterates
returns-clause-iterates c = grind (arith, Pieces-pieces_of, Pieces-only)
