use Rattle.std.proofs.Common.{◌≡◌, ◌-◌, ◌∙◌, [], ◌∷◌, IsSomeAnd, ap, arith, refl, subst, sym}
use Rattle.ascii.specs.ByClass.{whole, words_by}
use Rattle.ascii.specs.Class.{IsWhitespace}
use Rattle.ascii.specs.Cutting.{left_of}
use Rattle.ascii.specs.Placed.{HasAt}
use Rattle.ascii.specs.Spans.{items_of, piece_in}
use Rattle.ascii.specs.Steps.{CutsOff, at_front}
use Rattle.ascii.specs.Tests.{is_whitespace}
use Rattle.ascii.specs.TheCuts.{at_words}
use Rattle.ascii.specs.View.{text_of}
use Rattle.ascii.proofs.CutLaws.{at_words_lawful}
use Rattle.tests_callers.proofs.cuts.first_word_by_place.Goals as goal

pub returns-in_err-span : goal.returns-in_err-span
returns-in_err-span c =
    let cut = at_words IsWhitespace is_whitespace in
    let same = (at_words_lawful IsWhitespace is_whitespace).same (whole (text_of c.args.line)) in
    let are = c.spans.ensures.are ∙ ap (left_of cut.spans) c.split_whitespace.ensures.iterates.rest in
    let none = subst (λ spans. spans ≡ []) are c.in_err-span.ensures.steps.0.0 in
    rw c.from_residual.ensures (subst (λ words. words ≡ []) same
    (subst (λ spans. items_of spans ≡ []) (sym none) refl))

pub returns : goal.returns
returns c =
    let span = c.in_ok-span.span in
    let steps = c.in_ok-span.ensures.steps in
    let left = c.next.new.self in
    let same = (at_words_lawful IsWhitespace is_whitespace).same (whole (text_of c.args.line)) in
    let rest = c.split_whitespace.ensures.iterates.rest in
    let are = c.spans.ensures.are
    ∙ ap (left_of (at_words IsWhitespace is_whitespace).spans) rest in
    let spans = subst (λ spans. spans ≡ piece_in span ∷ left.items) are steps.0 in
    let words = subst (λ words. words ≡ text_of span.text ∷ items_of left.items) same
    (subst (λ spans. items_of spans ≡ text_of span.text ∷ items_of left.items) (sym spans) refl) in
    let cut = subst (λ rest. IsSomeAnd rest (λ part.
    CutsOff at_front (at_words IsWhitespace is_whitespace) part (piece_in span) left.rest))
    (c.spans.ensures.rest ∙ rest) steps.1.1.2 in
    let at : span.start - 0 ≡ span.start = omega arith in
    let has = subst (λ start. HasAt (text_of c.args.line) start (text_of span.text)) at
    cut.placed.has in
    let is : text_of c.slice.result ≡ text_of span.text = rw c.slice.ensures
    (rw c.len.ensures has) in
    let all = words_by is_whitespace (text_of c.args.line) in
    (items_of left.items, subst (λ word. all ≡ word ∷ items_of left.items) (sym is) words)
