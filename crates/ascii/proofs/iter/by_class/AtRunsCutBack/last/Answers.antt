use Rattle.std.proofs.Common.{ap, subst, ◌∙◌, eqb, not, arith}
use Rattle.ascii_base.specs.Bytes.{IsOnSide}
use Rattle.ascii.specs.ByClass.{side_test}
use Rattle.ascii.specs.Words.{IsWord}
use Rattle.ascii.specs.View.{text_of}
use Rattle.ascii.proofs.ByClassLemmas.{last_is_word, last_word_by, no_word}
use Rattle.std.proofs.lemmas.List.{take-take}
use Rattle.ascii.proofs.RunLemmas.{side_decides, starts_gap, starts_last, starts_word}
use Rattle.ascii.proofs.LeftLemmas.{before_place}
use Rattle.ascii.specs.Found.{part_in}
use Rattle.ascii.proofs.iter.by_class.AtRunsCutBack.last.Goals as goal

pub returns-in_err-found-clause-last : goal.returns-in_err-found-clause-last
returns-in_err-found-clause-last g c =
    let gap = not (not (eqb g.row.INSIDE 0)) in
    rw c.from_residual.ensures (no_word (IsOnSide g.C.Class.is gap) (side_test g.C.Class.test gap)
    (side_decides g.C.Class.is g.C.Class.test g.met.C.Class.decides gap) c.args.part.start
    (text_of c.args.part.view) c.in_err-found.ensures)

pub returns-clause-last : goal.returns-clause-last
returns-clause-last g c =
    let Is = g.C.Class.is in
    let inside = not (eqb g.row.INSIDE 0) in
    let run = c.in_ok-found.ensures in
    rw (
      c.piece.ensures.piece,
      c.to.ensures.start,
      c.to.ensures.text,
      c.from.ensures.start,
      c.from.ensures.text,
      c.to-rest.ensures.start,
      c.to-rest.ensures.text,
    )
    (last_word_by (IsOnSide Is (not inside)) (side_test g.C.Class.test (not inside))
    (side_decides Is g.C.Class.test g.met.C.Class.decides (not inside)) c.args.part.start
    (text_of c.args.part.view) c.in_ok-found.found.end c.in_ok-found.found.start
    (omega (arith, run.some)) (starts_gap Is (not inside) _ _ _ run.gap) (starts_word Is inside _
    _ _ (starts_last Is inside _ _ _ run.gap (omega (arith, run.some)) run.run)))

pub returns-clause-item : goal.returns-clause-item
returns-clause-item g c =
    let Is = g.C.Class.is in
    let inside = not (eqb g.row.INSIDE 0) in
    let run = c.in_ok-found.ensures in (
      subst (IsWord (IsOnSide Is (not inside))) (grind arith)
          (last_is_word (IsOnSide Is (not inside)) (side_test g.C.Class.test (not inside))
          (side_decides Is g.C.Class.test g.met.C.Class.decides (not inside)) c.args.part.start
          (text_of c.args.part.view) c.in_ok-found.found.end c.in_ok-found.found.start
          (omega (arith, run.some)) (starts_gap Is (not inside) _ _ _ run.gap)
          (starts_word Is inside _ _ _ (starts_last Is inside _ _ _ run.gap
          (omega (arith, run.some)) run.run))),
      c.piece.ensures.fits,
    )

pub returns-clause-marks : goal.returns-clause-marks
returns-clause-marks g c = grind (arith, not, eqb, take-take)

pub returns-clause-left : goal.returns-clause-left
returns-clause-left g c =
    let found = c.in_ok-found.found in
    let gap = c.in_ok-found.ensures.gap.high in
    let high = c.in_ok-found.ensures.run.high in
    let some = c.in_ok-found.ensures.some in
    before_place 0 (part_in c.args.part) _ (part_in c.to.result) found.start
    (omega (arith, gap, high, some)) (c.to.ensures.start ∙ c.to-rest.ensures.start)
    (grind (arith, take-take))
    (omega (arith, ap (λ one. one.start) c.piece.ensures.piece, c.from.ensures.start, c.to-rest.ensures.start))
