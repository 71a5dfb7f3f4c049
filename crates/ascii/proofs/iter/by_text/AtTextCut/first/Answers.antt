use Rattle.std.proofs.Common.{ap, subst, sym, ◌∙◌, arith, length-take-le}
use Rattle.std.proofs.lemmas.Bool.{false≢true}
use Rattle.ascii.specs.ByText.{IsFreeOf}
use Rattle.ascii.specs.View.{text_of}
use Rattle.ascii.proofs.ByTextLemmas.{free_before, free_nowhere, piece_spans_at_first}
use Rattle.ascii.proofs.ByTextLemmas.{piece_spans_at_none}
use Rattle.ascii.proofs.LeftLemmas.{after_place}
use Rattle.ascii.specs.Parts.{part_end}
use Rattle.ascii.specs.Found.{part_in}
use Rattle.ascii.proofs.iter.by_text.AtTextCut.first.Goals as goal

pub returns-in-Some-clause-first : goal.returns-in-Some-clause-first
returns-in-Some-clause-first c = grind (arith, piece_spans_at_first, false≢true)

pub returns-in-Some-clause-item : goal.returns-in-Some-clause-item
returns-in-Some-clause-item c = (
  subst (IsFreeOf (text_of c.args.self.needle))
      (sym (ap (λ span. span.item) c.piece-in-Some.ensures.piece ∙ c.to.ensures.text))
      (free_before c.args.part.start (text_of c.args.part.view) (text_of c.args.self.needle)
      c.in-Some.at c.in-Some.ensures),
  c.piece-in-Some.ensures.fits,
)

pub returns-in-None-clause-first : goal.returns-in-None-clause-first
returns-in-None-clause-first c = grind (arith, piece_spans_at_none)

pub returns-in-None-clause-item : goal.returns-in-None-clause-item
returns-in-None-clause-item c = (
  subst (IsFreeOf (text_of c.args.self.needle))
      (sym (ap (λ span. span.item) c.piece-in-None.ensures.piece))
      (free_nowhere c.args.part.start (text_of c.args.part.view) (text_of c.args.self.needle)
      c.in-None.ensures),
  c.piece-in-None.ensures.fits,
)

pub returns-in-Some-clause-left : goal.returns-in-Some-clause-left
returns-in-Some-clause-left c =
    let text = text_of c.args.part.view in
    let fits = c.in-Some.ensures.1.fits in
    after_place _ (part_in c.args.part) _ (part_in c.from.result) _
    (omega (arith, fits, c.len.ensures)) c.from.ensures.start c.from.ensures.text
    (grind (arith, length-take-le))

pub returns-in-None-clause-left : goal.returns-in-None-clause-left
returns-in-None-clause-left c = ap part_end c.piece-in-None.ensures.piece

pub returns-then-is_empty-clause-left : goal.returns-then-is_empty-clause-left
returns-then-is_empty-clause-left c = ap part_end c.piece.ensures.piece
