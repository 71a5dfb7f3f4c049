use Rattle.std.proofs.Common.{Ok, ◌∷◌, [], map, ap, refl, sym, ◌∙◌, arith}
use Rattle.std.proofs.lemmas.List.{map-append}
use Rattle.std.proofs.lemmas.Option.{none-some}
use Rattle.ascii_lines.specs.CollectedLines.{owned_line_in}
use Rattle.ascii_lines.proofs.LineReaderLemmas.{an_error, first_lines, no_more, one_more}
use Rattle.ascii_lines.proofs.LineReaderLemmas.{yields_nil}
use Rattle.ascii_lines.proofs.TakesLemmas.{on_error}
use Rattle.ascii_lines.proofs.owned_lines.collect_lines.Goals as goal

pub lines-preserved : goal.lines-preserved
lines-preserved g c =
    rw (
      c.in_ok-push-in-Ok-Some.ensures.items,
      map-append owned_line_in c.lines.lines.items (c.in_ok-owned_line-in-Ok-Some.field-0 ∷ []),
    )
    (one_more _ _ c.lines.reader c.next_line.follows.lender-at-none _ _ _ c.lines.invariant
    c.next_line.follows.holds-at-none (c.in-Ok-Some.is ∙ ap Ok c.in-Ok-Some.field-0-is)
    c.in_ok-owned_line-in-Ok-Some.ensures)

pub lines-init : goal.lines-init
lines-init g c = rw c.new-lines.ensures.items (yields_nil c.args.reader.now.state c.requires)

pub returns-in_err-owned_line-in-Ok-Some-clause-lost :
    goal.returns-in_err-owned_line-in-Ok-Some-clause-lost
returns-in_err-owned_line-in-Ok-Some-clause-lost g c = on_error c.from_residual.result (
  _,
  one_more _ _ c.lines.reader c.next_line.follows.lender-at-none _ _ _ c.lines.invariant
      c.next_line.follows.holds-at-none (c.in-Ok-Some.is ∙ ap Ok c.in-Ok-Some.field-0-is) refl,
)

pub returns-in_err-push-in-Ok-Some-clause-lost :
    goal.returns-in_err-push-in-Ok-Some-clause-lost
returns-in_err-push-in-Ok-Some-clause-lost g c =
    on_error c.from_residual-in_err-push-in-Ok-Some.result (
      _,
      one_more _ _ c.lines.reader c.next_line.follows.lender-at-none _ _ _ c.lines.invariant
          c.next_line.follows.holds-at-none (c.in-Ok-Some.is ∙ ap Ok c.in-Ok-Some.field-0-is) refl,
    )

pub returns-in-Ok-None-clause-runs : goal.returns-in-Ok-None-clause-runs
returns-in-Ok-None-clause-runs g c = grind (arith, no_more)

pub returns-in-Err-clause-runs : goal.returns-in-Err-clause-runs
returns-in-Err-clause-runs g c = grind (arith, an_error)

pub returns-in-Err-clause-first : goal.returns-in-Err-clause-first
returns-in-Err-clause-first g c = λ told is.
    let first = first_lines c.args.reader.now.state c.lines.reader.state
    (map owned_line_in c.lines.lines.items) told is c.lines.invariant in
    (first.0, first.1, λ none. absurd (none-some c.in-Err.error (sym none)), first.3)

pub returns-in-Ok-None-clause-first : goal.returns-in-Ok-None-clause-first
returns-in-Ok-None-clause-first g c = λ told is.
    let new = c.next_line.follows.lender-at-none in
    let runs = no_more _ _ c.lines.reader new _ c.lines.invariant
    c.next_line.follows.holds-at-none (c.in-Ok-None.is ∙ ap Ok c.in-Ok-None.field-0-is) in
    let first = first_lines c.args.reader.now.state new.state
    (map owned_line_in c.lines.lines.items) told is runs.0 in
    (first.0, first.1, λ none. first.2 runs.1, first.3)
