use Rattle.ascii.specs.Found.{part_in}
use Rattle.ascii.proofs.SpansLemmas.{piece_spans_last, piece_spans_free}
use Rattle.ascii.proofs.LeftLemmas.{before_split}
use Rattle.std.proofs.Common.{ap}
use Rattle.ascii.proofs.iter.split.AtCharCutBack.last.Goals as goal

pub returns-in-Some-clause-last : goal.returns-in-Some-clause-last
returns-in-Some-clause-last c = piece_spans_last c.args.self (part_in c.args.part) _ _ _ c.self.view_is
    c.in-Some.ensures c.piece.ensures.piece

pub returns-in-None-clause-last : goal.returns-in-None-clause-last
returns-in-None-clause-last c = piece_spans_free c.args.self (part_in c.args.part) _ _ c.self.view_is
    c.in-None.ensures c.piece-in-None.ensures.piece

pub returns-in-Some-clause-left : goal.returns-in-Some-clause-left
returns-in-Some-clause-left c = before_split _ (part_in c.args.part) _ _ c.in-Some.ensures.0
    c.piece.ensures.piece

pub returns-in-None-clause-left : goal.returns-in-None-clause-left
returns-in-None-clause-left c = ap (λ one. one.start) c.piece-in-None.ensures.piece
