use Rattle.std.proofs.Common.{◌-◌, length, refl, sym, ◌∙◌, take}
use Rattle.std.proofs.lemmas.Bool.{false≢true}
use Rattle.ascii.proofs.LinesByLemmas.{closed_line, open_line}
use Rattle.ascii.proofs.endings.split_cr_lf.Goals as goal

pub returns-then-ends_in_cr_lf-clause-line : goal.returns-then-ends_in_cr_lf-clause-line
returns-then-ends_in_cr_lf-clause-line c =
    let text = c.args.line.now in
    (closed_line 0 text (take (length text - 2) text) c.requires refl
    (c.ends_in_cr_lf.ensures.0 c.if-ends_in_cr_lf.true)).lines

pub returns-clause-line : goal.returns-clause-line
returns-clause-line c =
    let text = c.args.line.now in
    (open_line 0 text text c.requires refl
    (λ ends. false≢true (sym c.if-ends_in_cr_lf.false ∙ c.ends_in_cr_lf.ensures.1 ends))).lines
