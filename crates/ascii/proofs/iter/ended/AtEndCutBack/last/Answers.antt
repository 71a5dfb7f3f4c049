use Rattle.std.proofs.Common.{◌≡◌, ap, sym, subst, ◌∙◌, append_assoc, arith, ◌++◌, ◌∷◌, []}
use Rattle.std.proofs.Math.Seq.{take-append_seam}
use Rattle.ascii_base.specs.Code.{code_of}
use Rattle.ascii.specs.Ended.{EndsAtMost}
use Rattle.ascii.specs.Found.{part_in}
use Rattle.ascii.specs.View.{text_of}
use Rattle.ascii.proofs.EndedLemmas.{ends_at_most, from_last, inclusive_last}
use Rattle.ascii.proofs.LeftLemmas.{before_text}
use Rattle.ascii.proofs.iter.ended.AtEndCutBack.last.Goals as goal

pub returns-clause-last : goal.returns-clause-last
returns-clause-last c =
    let text = text_of c.args.part.view in
    let front = c.in_ok-_last.front.now in
    let whole = c.in_ok-_last.ensures.cases.0 in
    let cut : text_of c.to.result.view ≡ front = rw (c.to.ensures.text, whole, take-append_seam) in
    let ends = rw (sym cut) at whole in
    let after = from_last (code_of c.args.self.on) (part_in c.args.part) _ _ c.to.result _ ends
    c.split_after_last.ensures in
    inclusive_last (code_of c.args.self.on) (part_in c.args.part) _ _ c.to.result _ _
    c.as_byte.ensures.code ends c.to.ensures.start c.split_after_last.ensures
    (rw (c.piece.ensures.piece, c.from.ensures.start, c.from.ensures.text, c.len.ensures, after))

pub returns-clause-item : goal.returns-clause-item
returns-clause-item c =
    let front = c.in_ok-_last.front.now in
    let whole = c.in_ok-_last.ensures.cases.0 in
    let cut : text_of c.to.result.view ≡ front = rw (c.to.ensures.text, whole, take-append_seam) in
    let ends = rw (sym cut) at whole in
    let after = from_last (code_of c.args.self.on) (part_in c.args.part) _ _ c.to.result _ ends
    c.split_after_last.ensures in (
      subst (EndsAtMost (code_of c.args.self.on)) (grind arith)
          (ends_at_most (code_of c.args.self.on) c.in_ok-_last._last.now
          (text_of c.split_after_last.result.1.view) (grind arith)),
      c.piece.ensures.fits,
    )

pub returns-clause-left : goal.returns-clause-left
returns-clause-left c =
    let front = c.in_ok-_last.front.now in
    let last = c.in_ok-_last._last.now in
    let whole = c.in_ok-_last.ensures.cases.0 in
    let cut : text_of c.to.result.view ≡ front = rw (c.to.ensures.text, whole, take-append_seam) in
    let is = c.split_after_last.ensures in
    let others = text_of c.split_after_last.result.0.view in
    let piece = text_of c.split_after_last.result.1.view in
    before_text 0 (part_in c.args.part) _ (part_in c.split_after_last.result.0) (piece ++ last ∷ [])
    (whole ∙ (ap (λ t. t ++ last ∷ []) (sym cut ∙ is.text) ∙ append_assoc others piece (last ∷ [])))
    (is.before ∙ c.to.ensures.start) (grind arith)
