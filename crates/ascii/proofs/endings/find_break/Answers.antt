use Rattle.std.proofs.Common.{◌≡◌, ◌+◌, ◌-◌, length, arith, subst, sym, ◌∙◌}
use Rattle.std.proofs.lemmas.Bool.{false≢true}
use Rattle.ascii.specs.declared.iter.spans.Endings.TheVariants.{CrLfStrict}
use Rattle.ascii.specs.Endings.{FreeUpTo, IsFirstStop}
use Rattle.ascii.proofs.EndingsLemmas.{at_break, before_break, break_is_cr, stop_after_cr}
use Rattle.ascii.proofs.EndingsLemmas.{stop_at_lf}
use Rattle.ascii.proofs.endings.find_break.Goals as goal

pub returns-then-text-place-eq10 : goal.returns-then-text-place-eq10
returns-then-text-place-eq10 c =
    let first = c.in-Some.ensures in (
      omega (arith, first.0.high),
      stop_at_lf c.args.text.now c.in-Some.place c.if-text-place-eq10.true
          (before_break c.args.text.now c.args.searched c.requires.free
          (λ is. false≢true (sym c.if-follows_cr.false ∙ c.follows_cr.ensures.1 is))
          c.in-Some.place first.0),
    )

pub returns-then-place-text : goal.returns-then-place-text
returns-then-place-text c =
    let first = c.in-Some.ensures in
    let text = c.args.text.now in
    let place = c.in-Some.place in
    let next : place + 2 ≡ place + 1 + 1 = omega arith in
    let back : place + 1 - 1 ≡ place = omega arith in (
      omega (arith, c.if-place-text.true),
      subst (IsFirstStop CrLfStrict text) (sym next) (stop_after_cr text (place + 1) (omega arith)
          (grind (arith, break_is_cr)) (at_break text c.args.searched c.requires.free
          (λ is. false≢true (sym c.if-follows_cr.false ∙ c.follows_cr.ensures.1 is)) place first.0
          c.if-text-place-eq10.false)),
    )

pub returns : goal.returns
returns c =
    let first = c.in-Some.ensures in
    let text = c.args.text.now in
    let place = c.in-Some.place in
    let all : place + 1 ≡ length text = omega (arith, c.if-place-text.false, first.0.high) in
    subst (FreeUpTo CrLfStrict text) all
    (at_break text c.args.searched c.requires.free
    (λ is. false≢true (sym c.if-follows_cr.false ∙ c.follows_cr.ensures.1 is)) place first.0
    c.if-text-place-eq10.false)
