use Rattle.std.proofs.Common.{Ok, ◌≢◌, ◌∷◌, [], map, ap, arith, length-append, refl, ◌∙◌}
use Rattle.std.proofs.lemmas.Bool.{false≢true}
use Rattle.std.proofs.lemmas.List.{length-map, map-append}
use Rattle.std.proofs.lemmas.List.Elements.{All-append, All-cons, All-nil}
use Rattle.ascii.specs.Lines.{Line}
use Rattle.ascii.specs.Spans.{WithStart}
use Rattle.ascii_lines.specs.CollectedLines.{owned_line_in}
use Rattle.ascii_lines.proofs.LineReaderLemmas.{no_more, one_more, yields_nil}
use Rattle.ascii_lines.proofs.TakesLemmas.{on_error}
use Rattle.ascii_lines.proofs.owned_lines.read_block.Goals as goal

-- the body of a line is not empty
abbrev IsFull : WithStart Line → Type 0
IsFull line = line.item.body ≢ []

pub lines-init : goal.lines-init
lines-init g c = grind (arith, yields_nil, All-nil)

pub returns-then-is_empty-clause-runs : goal.returns-then-is_empty-clause-runs
returns-then-is_empty-clause-runs g c = (
  c.lines.invariant.1,
  (
    _,
    c.if-is_empty.ensures.0 refl,
    one_more _ _ c.lines.reader c.next_line.follows.lender-at-none _ _ _ c.lines.invariant.0
        c.next_line.follows.holds-at-none (c.in-Ok-Some.is ∙ ap Ok c.in-Ok-Some.field-0-is) refl,
  ),
)

pub returns-in_err-owned_line-in-Ok-Some-clause-lost :
    goal.returns-in_err-owned_line-in-Ok-Some-clause-lost
returns-in_err-owned_line-in-Ok-Some-clause-lost g c = on_error c.from_residual.result (
  _,
  one_more _ _ c.lines.reader c.next_line.follows.lender-at-none _ _ _ c.lines.invariant.0
      c.next_line.follows.holds-at-none (c.in-Ok-Some.is ∙ ap Ok c.in-Ok-Some.field-0-is) refl,
)

pub returns-in_err-push-in-Ok-Some-clause-lost :
    goal.returns-in_err-push-in-Ok-Some-clause-lost
returns-in_err-push-in-Ok-Some-clause-lost g c =
    on_error c.from_residual-in_err-push-in-Ok-Some.result (
      _,
      one_more _ _ c.lines.reader c.next_line.follows.lender-at-none _ _ _ c.lines.invariant.0
          c.next_line.follows.holds-at-none (c.in-Ok-Some.is ∙ ap Ok c.in-Ok-Some.field-0-is) refl,
    )

pub lines-preserved : goal.lines-preserved
lines-preserved g c =
    let so_far = map owned_line_in c.lines.lines.items in
    let kept = c.in_ok-owned_line-in-Ok-Some.field-0 in
    rw (
      c.in_ok-push-in-Ok-Some.ensures.items,
      map-append owned_line_in c.lines.lines.items (kept ∷ []),
    ) (
      one_more _ _ c.lines.reader c.next_line.follows.lender-at-none _ _ _ c.lines.invariant.0
          c.next_line.follows.holds-at-none (c.in-Ok-Some.is ∙ ap Ok c.in-Ok-Some.field-0-is)
          c.in_ok-owned_line-in-Ok-Some.ensures,
      (
        All-append IsFull so_far (owned_line_in kept ∷ []) c.lines.invariant.1.0
            (grind (arith, All-cons, false≢true, All-nil)),
        grind (arith, length-append, length-map),
      ),
    )

pub returns-in-Ok-None-clause-runs : goal.returns-in-Ok-None-clause-runs
returns-in-Ok-None-clause-runs g c = grind (arith, no_more)
