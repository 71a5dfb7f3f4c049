use Rattle.std.proofs.Common.{rules, ◌≡◌, ◌≢◌, ◌<◌, ◌≤◌, ◌+◌, arith, length, sym, subst}
use Rattle.std.specs.Prelude.{IfOk}
use Rattle.std.proofs.lemmas.Grind.{common_steps}
use Rattle.ascii.specs.Code.{code_of}
use Rattle.cookbook.proofs.ScreenLemmas.{column_here, column_line, column_next}
use Rattle.cookbook.specs.Screen.{cell_text}
use Rattle.cookbook.proofs.screen.put.Goals as goal

pub returns-then-eq-clause-column : goal.returns-then-eq-clause-column
returns-then-eq-clause-column c =
    sym (column_line c.args.width c.args.column (code_of c.args.ch) (search rules))

pub returns-then-cell_size-width-clause-column : goal.returns-then-cell_size-width-clause-column
returns-then-cell_size-width-clause-column c =
    let other : code_of c.args.ch ≢ 10 = search rules in
    let fits : c.args.column + length
    (cell_text c.args.width c.args.column (code_of c.args.ch)) ≤ c.args.width =
    grind (arith, common_steps) in
    subst (λ k. IfOk c.put_cell.result (λ next. next ≡ k))
    (sym (column_here c.args.width c.args.column (code_of c.args.ch) other fits))
    c.put_cell.ensures.column

pub returns-clause-column : goal.returns-clause-column
returns-clause-column c =
    let other : code_of c.args.ch ≢ 10 = search rules in
    let full : c.args.width < c.args.column + length
    (cell_text c.args.width c.args.column (code_of c.args.ch)) = grind (arith, common_steps) in
    subst (λ k. IfOk c.put_cell-2.result (λ next. next ≡ k))
    (sym (column_next c.args.width c.args.column (code_of c.args.ch) other full))
    c.put_cell-2.ensures.column
