use Rattle.std.proofs.Common.{◌≡◌, ◌++◌, ◌∷◌, [], sym, ap, append_assoc, arith, ◌∙◌}
use Rattle.std.proofs.Math.Seq.{take-append_seam}
use Rattle.ascii_base.specs.Code.{code_of}
use Rattle.ascii.specs.Found.{part_in}
use Rattle.ascii.specs.View.{text_of}
use Rattle.ascii.proofs.EndedLemmas.{ended_last, last_some, open_last}
use Rattle.ascii.proofs.LeftLemmas.{before_text}
use Rattle.ascii.proofs.iter.ended.AtTerminatorCutBack.last.Goals as goal

pub returns-then-last-on-clause-last : goal.returns-then-last-on-clause-last
returns-then-last-on-clause-last c =
    let text = text_of c.args.part.view in
    let front = c.in_ok-last.front.now in
    let whole : text ≡ front ++ c.as_byte-on.result ∷ [] = grind arith in
    let cut : text_of c.to.result.view ≡ front = rw (c.to.ensures.text, whole, take-append_seam) in
    ended_last (λ piece. piece) (code_of c.args.self.on) (part_in c.args.part) _ c.to.result _ _
    c.as_byte-on.ensures.code (rw cut whole) c.to.ensures.start c.split_after_last.ensures
    c.piece.ensures.piece

pub returns-else-last-on-clause-last : goal.returns-else-last-on-clause-last
returns-else-last-on-clause-last c =
    open_last (λ piece. piece) (code_of c.args.self.on) (part_in c.args.part) _ _ _
    c.as_byte-on.ensures.code c.split_after_last-else-last-on.ensures
    (last_some (part_in c.args.part) _ _ c.in_ok-last.front.now c.in_ok-last.last.now
    c.in_ok-last.ensures.cases.0 c.if-last-on.false c.split_after_last-else-last-on.ensures)
    c.piece-else-last-on.ensures.piece

pub returns-then-last-on-clause-left : goal.returns-then-last-on-clause-left
returns-then-last-on-clause-left c =
    let on = c.as_byte-on.result in
    let front = c.in_ok-last.front.now in
    let whole : text_of c.args.part.view ≡ front ++ on ∷ [] = grind arith in
    let cut : text_of c.to.result.view ≡ front = rw (c.to.ensures.text, whole, take-append_seam) in
    let is = c.split_after_last.ensures in
    let others = text_of c.split_after_last.result.0.view in
    let piece = text_of c.split_after_last.result.1.view in
    before_text 0 (part_in c.args.part) _ (part_in c.split_after_last.result.0) (piece ++ on ∷ [])
    (whole ∙ (ap (λ t. t ++ on ∷ []) (sym cut ∙ is.text) ∙ append_assoc others piece (on ∷ [])))
    (is.before ∙ c.to.ensures.start)
    (omega (arith, ap (λ one. one.start) c.piece.ensures.piece, is.before, is.behind))

pub returns-else-last-on-clause-left : goal.returns-else-last-on-clause-left
returns-else-last-on-clause-left c =
    let is = c.split_after_last-else-last-on.ensures in
    before_text 0 (part_in c.args.part) _ (part_in c.split_after_last-else-last-on.result.0)
    (text_of c.split_after_last-else-last-on.result.1.view) is.text is.before
    (omega (arith, ap (λ one. one.start) c.piece-else-last-on.ensures.piece, is.before, is.behind))
