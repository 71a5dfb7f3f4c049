use Rattle.std.proofs.Common.{subst, eqb, not, arith, length-drop, length-take-le}
use Rattle.ascii_base.specs.Bytes.{IsOnSide}
use Rattle.ascii.specs.ByClass.{side_test}
use Rattle.ascii.specs.Words.{IsWord}
use Rattle.ascii.specs.View.{text_of}
use Rattle.ascii.proofs.ByClassLemmas.{first_is_within, first_word_within, no_word}
use Rattle.ascii.proofs.RunLemmas.{ends_gap, ends_word, side_decides}
use Rattle.ascii.proofs.LeftLemmas.{after_place}
use Rattle.ascii.proofs.iter.by_class.AtRunsCut.first.Goals as goal

pub returns-in_err-found-clause-first : goal.returns-in_err-found-clause-first
returns-in_err-found-clause-first g c =
    let gap = not (not (eqb g.row.INSIDE 0)) in
    rw c.from_residual.ensures (no_word (IsOnSide g.C.Class.is gap) (side_test g.C.Class.test gap)
    (side_decides g.C.Class.is g.C.Class.test g.met.C.Class.decides gap) c.args.part.start
    (text_of c.args.part.view) c.in_err-found.ensures)

pub returns-clause-first : goal.returns-clause-first
returns-clause-first g c =
    let Is = g.C.Class.is in
    let inside = not (eqb g.row.INSIDE 0) in
    let run = c.in_ok-found.ensures in
    rw (
      c.piece.ensures.piece,
      c.from.ensures.start,
      c.from.ensures.text,
      c.to.ensures.start,
      c.to.ensures.text,
      c.from-2.ensures.start,
      c.from-2.ensures.text,
    )
    (first_word_within (IsOnSide Is (not inside)) (side_test g.C.Class.test (not inside))
    (side_decides Is g.C.Class.test g.met.C.Class.decides (not inside)) c.args.part.start
    (text_of c.args.part.view) c.in_ok-found.found.start c.in_ok-found.found.end
    (omega (arith, run.some)) (ends_gap Is (not inside) _ _ _ run.gap)
    (ends_word Is inside _ _ _ run.run))

pub returns-clause-item : goal.returns-clause-item
returns-clause-item g c =
    let Is = g.C.Class.is in
    let inside = not (eqb g.row.INSIDE 0) in
    let run = c.in_ok-found.ensures in (
      subst (IsWord (IsOnSide Is (not inside))) (grind arith)
          (first_is_within (IsOnSide Is (not inside)) (side_test g.C.Class.test (not inside))
          (side_decides Is g.C.Class.test g.met.C.Class.decides (not inside)) c.args.part.start
          (text_of c.args.part.view) c.in_ok-found.found.start c.in_ok-found.found.end
          (omega (arith, run.some)) (ends_gap Is (not inside) _ _ _ run.gap)
          (ends_word Is inside _ _ _ run.run)),
      c.piece.ensures.fits,
    )

pub returns-clause-marks : goal.returns-clause-marks
returns-clause-marks g c = grind arith

pub returns-clause-left : goal.returns-clause-left
returns-clause-left g c = grind (arith, after_place, length-drop, length-take-le)
