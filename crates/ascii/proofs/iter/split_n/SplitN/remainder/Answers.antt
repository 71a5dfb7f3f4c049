use Rattle.std.proofs.Common.{arith, subst, ◌==◌, None}
use Rattle.std.specs.Prelude.{cond}
use Rattle.ascii.specs.Pieces.{IsRemainderUpTo}
use Rattle.ascii.proofs.UpToLemmas.{up_to_none, up_to_remainder}
use Rattle.ascii.proofs.iter.split_n.SplitN.remainder.Goals as goal

pub returns-then-self-eq0 : goal.returns-then-self-eq0
returns-then-self-eq0 c =
    let inside = c.self.inside in
    up_to_none inside.pieces.on inside.count inside.pieces.items inside.pieces.rest _ c.args.self.now c.self.view_is
    c.if-self-eq0.true

pub returns : goal.returns
returns c =
    let inside = c.self.inside in
    subst (λ left. IsRemainderUpTo left c.remainder.result) c.self.view_is
    (up_to_remainder inside.pieces.on inside.count inside.pieces.items inside.pieces.rest
    (cond (inside.count == 0) None inside.pieces.rest) c.remainder.result
    (omega (arith, c.if-self-eq0.false)) c.remainder.ensures)
