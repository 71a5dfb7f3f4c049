use Rattle.std.proofs.Common.{None}
use Rattle.ascii.proofs.UpToLemmas.{up_to_done, up_to_rest}
use Rattle.ascii.proofs.iter.split_n.SplitNIterator.next.Goals as goal

pub returns-in-0-clause-steps : goal.returns-in-0-clause-steps
returns-in-0-clause-steps c =
    let inside = c.self.inside in
    up_to_done inside.pieces.on inside.count inside.pieces.items inside.pieces.rest _ c.args.self.now c.self.view_is
    c.in-0.is

pub returns-in-1-clause-steps : goal.returns-in-1-clause-steps
returns-in-1-clause-steps c =
    let inside = c.self.inside in
    up_to_rest inside.pieces.on inside.count inside.pieces.items inside.pieces.rest _ c.args.self.now c.self.view_is
    c.remainder.result c.in-1.is c.remainder.ensures None
