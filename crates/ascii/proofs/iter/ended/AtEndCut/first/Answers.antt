use Rattle.std.proofs.Common.{◌∙◌, ◌+◌, ◌++◌, ◌∷◌, [], ap, refl, subst, take, arith}
use Rattle.std.proofs.lemmas.Bool.{false≢true}
use Rattle.ascii_base.specs.Code.{code_of}
use Rattle.ascii.specs.Ended.{EndsAtMost}
use Rattle.ascii.specs.Found.{part_in}
use Rattle.ascii.proofs.EndedLemmas.{ended_first, ended_open, ends_at_most, through_first}
use Rattle.ascii.proofs.LeftLemmas.{after_through}
use Rattle.ascii.specs.Parts.{part_end}
use Rattle.ascii.specs.View.{text_of}
use Rattle.ascii.proofs.iter.ended.AtEndCut.first.Goals as goal

pub returns-in-Some-clause-first : goal.returns-in-Some-clause-first
returns-in-Some-clause-first c =
    let on = code_of c.args.self.on in
    let through = through_first on _ (part_in c.args.part) _ c.as_byte.ensures.code c.in-Some.ensures in
    ended_first (λ piece. piece ++ on ∷ []) on (part_in c.args.part) _ _ _ c.as_byte.ensures.code
    c.in-Some.ensures (grind arith)

pub returns-in-Some-clause-item : goal.returns-in-Some-clause-item
returns-in-Some-clause-item c =
    let on = code_of c.args.self.on in
    let through = through_first on _ (part_in c.args.part) _ c.as_byte.ensures.code c.in-Some.ensures in (
      subst (EndsAtMost on) (grind arith)
          (ends_at_most on on _ (rw c.as_byte.ensures.code at c.in-Some.ensures.1)),
      c.piece.ensures.fits,
    )

pub returns-in-None-clause-first : goal.returns-in-None-clause-first
returns-in-None-clause-first c =
    let on = code_of c.args.self.on in
    ended_open (λ piece. piece ++ on ∷ []) on (part_in c.args.part) _ _ c.as_byte.ensures.code
    c.in-None.ensures (λ none. false≢true (c.if-is_empty.ensures.1 none)) c.piece-in-None.ensures.piece

pub returns-in-Some-clause-left : goal.returns-in-Some-clause-left
returns-in-Some-clause-left c =
    let byte = c.as_byte.result in
    let through = through_first byte byte (part_in c.args.part) _ refl c.in-Some.ensures in
    let text = ap (λ span. span.item) c.piece.ensures.piece
    ∙ (c.to.ensures.text ∙ (ap (λ n. take (n + 1) (text_of c.args.part.view)) c.len.ensures ∙ through)) in
    after_through byte (part_in c.args.part) _ _ c.in-Some.ensures.0
    (ap (λ span. span.start) c.piece.ensures.piece ∙ c.to.ensures.start) text

pub returns-in-None-clause-left : goal.returns-in-None-clause-left
returns-in-None-clause-left c = ap part_end c.piece-in-None.ensures.piece
