use Rattle.std.proofs.Common.{ap, arith, subst, sym, ◌∙◌, length-take-le}
use Rattle.ascii.specs.ByClass.{IsOutside}
use Rattle.ascii.specs.View.{text_of}
use Rattle.ascii.proofs.ByClassLemmas.{first_is_outside, first_piece_by, only_is_outside}
use Rattle.ascii.proofs.ByClassLemmas.{only_piece_by}
use Rattle.ascii.proofs.LeftLemmas.{after_place}
use Rattle.ascii.specs.Parts.{part_end}
use Rattle.ascii.specs.Found.{part_in}
use Rattle.ascii.proofs.iter.by_class.AtClassCut.first.Goals as goal

pub returns-then-end-bytes-clause-first : goal.returns-then-end-bytes-clause-first
returns-then-end-bytes-clause-first g c = rw c.piece.ensures.piece
    (only_piece_by g.C.Class.is g.C.Class.test g.met.C.Class.decides c.args.part.start
    (text_of c.args.part.view) c.first_piece-end.result.0 c.if-end-bytes.true
    c.first_piece-end.ensures.end)

pub returns-then-end-bytes-clause-item : goal.returns-then-end-bytes-clause-item
returns-then-end-bytes-clause-item g c = (
  subst (IsOutside g.C.Class.is) (sym (ap (λ span. span.item) c.piece.ensures.piece))
      (only_is_outside g.C.Class.is g.C.Class.test g.met.C.Class.decides c.args.part.start
      (text_of c.args.part.view) c.first_piece-end.result.0 c.if-end-bytes.true
      c.first_piece-end.ensures.end),
  c.piece.ensures.fits,
)

pub returns-clause-first : goal.returns-clause-first
returns-clause-first g c = rw (
  c.piece-2.ensures.piece,
  c.to.ensures.start,
  c.to.ensures.text,
  c.from.ensures.start,
  c.from.ensures.text,
)
    (first_piece_by g.C.Class.is g.C.Class.test g.met.C.Class.decides c.args.part.start
    (text_of c.args.part.view) c.first_piece-end.result.0 c.if-end-bytes.false
    c.first_piece-end.ensures.end)

pub returns-clause-item : goal.returns-clause-item
returns-clause-item g c = (
  subst (IsOutside g.C.Class.is)
      (sym (ap (λ span. span.item) c.piece-2.ensures.piece ∙ c.to.ensures.text))
      (first_is_outside g.C.Class.is g.C.Class.test g.met.C.Class.decides c.args.part.start
      (text_of c.args.part.view) c.first_piece-end.result.0 c.first_piece-end.ensures.end),
  c.piece-2.ensures.fits,
)

pub returns-clause-marks : goal.returns-clause-marks
returns-clause-marks g c = grind arith

pub returns-then-end-bytes-clause-left : goal.returns-then-end-bytes-clause-left
returns-then-end-bytes-clause-left g c = ap part_end c.piece.ensures.piece

pub returns-clause-left : goal.returns-clause-left
returns-clause-left g c =
    let text = text_of c.args.part.view in
    let end = c.first_piece-end.result.0 in
    let high = c.first_piece-end.ensures.end.high in
    after_place 1 (part_in c.args.part) _ (part_in c.from.result) _
    (omega (arith, high, c.if-end-bytes.false)) c.from.ensures.start c.from.ensures.text
    (grind (arith, length-take-le))
