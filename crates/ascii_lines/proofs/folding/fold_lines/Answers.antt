use Rattle.std.proofs.Common.{Ok, ◌++◌, ◌∷◌, [], ap, arith, length-append, refl, sym, ◌∙◌}
use Rattle.std.proofs.lemmas.Option.{none-some}
use Rattle.ascii_lines.specs.LineReader.{read_line_in}
use Rattle.ascii_lines.proofs.LineReaderLemmas.{an_error, first_lines, line_advances, no_more}
use Rattle.ascii_lines.proofs.LineReaderLemmas.{one_more, yields_nil}
use Rattle.ascii_lines.proofs.folding.fold_lines.Goals as goal

pub lines-init : goal.lines-init
lines-init g c =
    ([], c.requires.before, yields_nil c.args.reader.now.state c.requires.open, omega arith)

pub step-requires : goal.step-requires
step-requires g c =
    let lines = c.lines.invariant in
    let on = line_advances c.lines.reader c.next_line.follows.lender-at-none c.next_line.result
    c.in-Ok-Some.line c.next_line.follows.holds-at-none
    (c.in-Ok-Some.is ∙ ap Ok c.in-Ok-Some.field-0-is) in
    (lines.0, lines.1, omega (arith, on.0, on.1, lines.3))

pub lines-smaller : goal.lines-smaller
lines-smaller g c =
    let on = line_advances c.lines.reader c.next_line.follows.lender-at-none c.next_line.result
    c.in-Ok-Some.line c.next_line.follows.holds-at-none
    (c.in-Ok-Some.is ∙ ap Ok c.in-Ok-Some.field-0-is) in
    omega (arith, on.0, on.1)

pub lines-preserved : goal.lines-preserved
lines-preserved g c =
    let lines = c.lines.invariant in
    let line = c.in-Ok-Some.line in
    let now = c.next_line.follows.lender-at-none in
    let next = c.next_line.follows.holds-at-none in
    let is = c.in-Ok-Some.is ∙ ap Ok c.in-Ok-Some.field-0-is in
    let on = line_advances c.lines.reader now c.next_line.result line next is in (
      lines.0 ++ read_line_in line ∷ [],
      c.step.ensures lines.0 lines.1,
      one_more c.args.reader.now.state lines.0 c.lines.reader now c.next_line.result line
          (read_line_in line) lines.2 next is refl,
      omega (arith, on.0, lines.3, length-append lines.0 (read_line_in line ∷ [])),
    )

pub returns-in-Ok-None-clause-all : goal.returns-in-Ok-None-clause-all
returns-in-Ok-None-clause-all g c =
    let lines = c.lines.invariant in
    let now = c.next_line.follows.lender-at-none in
    let none = no_more c.args.reader.now.state lines.0 c.lines.reader now c.next_line.result
    lines.2 c.next_line.follows.holds-at-none (c.in-Ok-None.is ∙ ap Ok c.in-Ok-None.field-0-is) in
    record {
      lines = lines.0;
      runs = none;
      first = λ told is.
          let first = first_lines c.args.reader.now.state now.state lines.0 told is none.0 in
          (first.0, first.1, λ _. first.2 none.1, first.3);
      holds = lines.1;
    }

pub returns-in-Err-clause-until : goal.returns-in-Err-clause-until
returns-in-Err-clause-until g c =
    let lines = c.lines.invariant in
    record {
      lines = lines.0;
      runs = an_error c.args.reader.now.state lines.0 c.lines.reader
          c.next_line.follows.lender-at-none c.next_line.result c.in-Err.error lines.2
          c.next_line.follows.holds-at-none c.in-Err.is;
      first = λ told is.
          let first = first_lines c.args.reader.now.state c.lines.reader.state lines.0 told is
          lines.2 in
          (first.0, first.1, λ none. absurd (none-some c.in-Err.error (sym none)), first.3);
      holds = lines.1;
    }
