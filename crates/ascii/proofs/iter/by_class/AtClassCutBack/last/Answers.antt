use Rattle.std.proofs.Common.{ap, arith, subst, sym, ◌∙◌, ◌-◌}
use Rattle.ascii.specs.ByClass.{IsOutside}
use Rattle.ascii.specs.View.{text_of}
use Rattle.ascii.proofs.ByClassLemmas.{last_is_outside, last_piece_by, only_back_outside}
use Rattle.ascii.proofs.ByClassLemmas.{only_piece_back}
use Rattle.ascii.proofs.LeftLemmas.{before_place}
use Rattle.ascii.specs.Found.{part_in}
use Rattle.ascii.proofs.iter.by_class.AtClassCutBack.last.Goals as goal

pub returns-then-start-eq0-clause-last : goal.returns-then-start-eq0-clause-last
returns-then-start-eq0-clause-last g c = rw c.piece.ensures.piece
    (only_piece_back g.C.Class.is g.C.Class.test g.met.C.Class.decides c.args.part.start
    (text_of c.args.part.view) c.last_piece-start.result.0 c.if-start-eq0.true
    c.last_piece-start.ensures.start)

pub returns-then-start-eq0-clause-item : goal.returns-then-start-eq0-clause-item
returns-then-start-eq0-clause-item g c = (
  subst (IsOutside g.C.Class.is) (sym (ap (λ span. span.item) c.piece.ensures.piece))
      (only_back_outside g.C.Class.is g.C.Class.test g.met.C.Class.decides c.args.part.start
      (text_of c.args.part.view) c.last_piece-start.result.0 c.if-start-eq0.true
      c.last_piece-start.ensures.start),
  c.piece.ensures.fits,
)

pub returns-clause-last : goal.returns-clause-last
returns-clause-last g c = rw (
  c.piece-2.ensures.piece,
  c.to.ensures.start,
  c.to.ensures.text,
  c.from.ensures.start,
  c.from.ensures.text,
)
    (last_piece_by g.C.Class.is g.C.Class.test g.met.C.Class.decides c.args.part.start
    (text_of c.args.part.view) c.last_piece-start.result.0 c.if-start-eq0.false
    c.last_piece-start.ensures.start)

pub returns-clause-item : goal.returns-clause-item
returns-clause-item g c = (
  subst (IsOutside g.C.Class.is)
      (sym (ap (λ span. span.item) c.piece-2.ensures.piece ∙ c.from.ensures.text))
      (last_is_outside g.C.Class.is g.C.Class.test g.met.C.Class.decides c.args.part.start
      (text_of c.args.part.view) c.last_piece-start.result.0 c.last_piece-start.ensures.start),
  c.piece-2.ensures.fits,
)

pub returns-clause-marks : goal.returns-clause-marks
returns-clause-marks g c = grind arith

pub returns-then-start-eq0-clause-left : goal.returns-then-start-eq0-clause-left
returns-then-start-eq0-clause-left g c = ap (λ one. one.start) c.piece.ensures.piece

pub returns-clause-left : goal.returns-clause-left
returns-clause-left g c =
    let start = c.last_piece-start.result.0 in
    let high = c.last_piece-start.ensures.start.high in
    before_place 1 (part_in c.args.part) _ (part_in c.to.result) (start - 1)
    (omega (arith, high)) c.to.ensures.start c.to.ensures.text (grind arith)
