use Rattle.std.proofs.Common.{rules, ◌≡◌, ℕ, List, [], sym, subst, ◌∙◌}
use Rattle.ascii.specs.Code.{code_of}
use Rattle.ascii.specs.View.{text_of}
use Rattle.cookbook.specs.Screen.{IsPlain}
use Rattle.cookbook.proofs.ScreenLemmas.{IsOnTheWay, arrives, begins, goes_on, plain_shown}
use Rattle.cookbook.proofs.ScreenLemmas.{shown_narrow, shown_quiet}
use Rattle.cookbook.proofs.screen.wrap_for_screen.Goals as goal

pub loop-ch-init : goal.loop-ch-init
loop-ch-init c =
    let rest : c.into_iter-ch-iterator.result ≡ text_of c.args.view = search rules in
    let P : List ℕ → List ℕ → Type 0 =
    λ out rest. IsOnTheWay c.args.width (text_of c.args.view) out 0 rest in
    subst (λ out. P out c.into_iter-ch-iterator.result) (sym c.new-text.ensures.text)
    (subst (P []) (sym rest) (begins c.args.width (text_of c.args.view)))

pub put-requires-clause-column : goal.put-requires-clause-column
put-requires-clause-column c = c.loop-ch.invariant.inside

pub loop-ch-preserved : goal.loop-ch-preserved
loop-ch-preserved c =
    let way =
    subst (IsOnTheWay c.args.width (text_of c.args.view) c.loop-ch.text.text
    c.loop-ch.column) c.in-Some.ensures.steps c.loop-ch.invariant in
    let put = c.in_ok-column.ensures in
    subst (λ out. IsOnTheWay c.args.width (text_of c.args.view) out c.in_ok-column.column
    c.next.new.self) (sym put.text)
    (goes_on c.args.width (text_of c.args.view) c.loop-ch.text.text c.loop-ch.column
    (code_of c.in-Some.ch) c.in_ok-column.column c.next.new.self c.requires way put.column)

pub returns-clause-each : goal.returns-clause-each
returns-clause-each c =
    let done : c.loop-ch.ch-iterator ≡ [] = search rules in
    arrives c.args.width (text_of c.args.view) c.loop-ch.text.text c.loop-ch.column
    (subst (IsOnTheWay c.args.width (text_of c.args.view) c.loop-ch.text.text c.loop-ch.column)
    done c.loop-ch.invariant)

pub returns-clause-column : goal.returns-clause-column
returns-clause-column c = c.loop-ch.invariant.column

pub returns-clause-plain : goal.returns-clause-plain
returns-clause-plain c = subst (IsPlain c.args.width) (sym (returns-clause-each c)) (
  shown_quiet c.args.width 0 (text_of c.args.view) c.requires (search rules),
  shown_narrow
      c.args.width (text_of c.args.view) c.requires,
)

pub returns-clause-unchanged : goal.returns-clause-unchanged
returns-clause-unchanged c plain =
    returns-clause-each c ∙ plain_shown c.args.width (text_of c.args.view) plain.0 plain.1
