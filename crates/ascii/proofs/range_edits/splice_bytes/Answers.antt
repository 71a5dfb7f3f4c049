use Rattle.std.proofs.Common.{arith, refl}
use Rattle.ascii.proofs.SpliceLemmas.{splices}
use Rattle.ascii.proofs.range_edits.splice_bytes.Goals as goal

pub returns-then-piece-size : goal.returns-then-piece-size
returns-then-piece-size g c = splices (g.B.Buffer.state c.args.bytes.now).text c.args.piece.now
    c.args.start c.args.end (omega (arith, c.if-piece-size.true, c.requires.order))
    c.requires.inside (g.B.Buffer.state c.args.bytes.now) (g.B.Buffer.state c.overwrite.new.bytes)
    (g.B.Buffer.state c.remove_bytes.new.bytes) refl c.overwrite.ensures c.remove_bytes.ensures
