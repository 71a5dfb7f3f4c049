use Rattle.std.proofs.Common.{refl, ◌∙◌, ap}
use Rattle.std.proofs.lemmas.Bool.{false≢true}
use Rattle.ascii_base.specs.Code.{code_of}
use Rattle.ascii.specs.Found.{part_in}
use Rattle.ascii.proofs.EndedLemmas.{ended_first, ended_open}
use Rattle.ascii.proofs.LeftLemmas.{after_split}
use Rattle.ascii.specs.Parts.{part_end}
use Rattle.ascii.proofs.iter.ended.AtTerminatorCut.first.Goals as goal

pub returns-in-Some-clause-first : goal.returns-in-Some-clause-first
returns-in-Some-clause-first c = ended_first (λ piece. piece) (code_of c.args.self.on)
    (part_in c.args.part) _ _ _ c.as_byte.ensures.code c.in-Some.ensures
    (c.piece.ensures.piece ∙ rw c.in-Some.ensures.0.before refl)

pub returns-in-None-clause-first : goal.returns-in-None-clause-first
returns-in-None-clause-first c = ended_open (λ piece. piece) (code_of c.args.self.on)
    (part_in c.args.part) _ _ c.as_byte.ensures.code c.in-None.ensures
    (λ none. false≢true (c.if-is_empty.ensures.1 none)) c.piece-in-None.ensures.piece

pub returns-in-Some-clause-left : goal.returns-in-Some-clause-left
returns-in-Some-clause-left c = after_split _ (part_in c.args.part) _ _ c.in-Some.ensures.0
    c.piece.ensures.piece

pub returns-in-None-clause-left : goal.returns-in-None-clause-left
returns-in-None-clause-left c = ap part_end c.piece-in-None.ensures.piece
