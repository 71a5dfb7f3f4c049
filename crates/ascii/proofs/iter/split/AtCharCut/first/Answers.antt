use Rattle.ascii.specs.Found.{part_in}
use Rattle.ascii.proofs.SpansLemmas.{piece_spans_first, piece_spans_free}
use Rattle.ascii.proofs.LeftLemmas.{after_split}
use Rattle.ascii.specs.Parts.{part_end}
use Rattle.std.proofs.Common.{ap}
use Rattle.ascii.proofs.iter.split.AtCharCut.first.Goals as goal

pub returns-in-Some-clause-first : goal.returns-in-Some-clause-first
returns-in-Some-clause-first c = piece_spans_first c.args.self (part_in c.args.part) _ _ _ c.self.view_is
    c.in-Some.ensures c.piece.ensures.piece

pub returns-in-None-clause-first : goal.returns-in-None-clause-first
returns-in-None-clause-first c = piece_spans_free c.args.self (part_in c.args.part) _ _ c.self.view_is
    c.in-None.ensures c.piece-in-None.ensures.piece

pub returns-in-Some-clause-left : goal.returns-in-Some-clause-left
returns-in-Some-clause-left c = after_split _ (part_in c.args.part) _ _ c.in-Some.ensures.0
    c.piece.ensures.piece

pub returns-in-None-clause-left : goal.returns-in-None-clause-left
returns-in-None-clause-left c = ap part_end c.piece-in-None.ensures.piece
