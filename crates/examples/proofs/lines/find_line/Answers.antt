use Rattle.std.proofs.Common.{Ok, ◌++◌, ◌∷◌, [], ap, arith, refl, ◌∙◌}
use Rattle.std.proofs.lemmas.Bool.{false≢true}
use Rattle.ascii.specs.Lines.{Line}
use Rattle.ascii.specs.Search.{ContainsText}
use Rattle.ascii.specs.Spans.{WithStart}
use Rattle.std.proofs.lemmas.List.Elements.{All-append, All-cons, All-nil}
use Rattle.ascii_lines.specs.LineReader.{read_line_in}
use Rattle.ascii_lines.proofs.LineReaderLemmas.{line_advances, no_more, one_more, yields_nil}
use Rattle.examples.proofs.lines.find_line.Goals as goal

pub lines-init : goal.lines-init
lines-init g c = ([], All-nil _, yields_nil c.args.reader.now.state c.requires)

pub returns-then-is_in : goal.returns-then-is_in
returns-then-is_in g c =
    let lines = c.lines.invariant in
    let line = c.in-Ok-Some.line in (
      lines.0,
      read_line_in line,
      lines.1,
      c.if-is_in.ensures.0 refl,
      refl,
      one_more c.args.reader.now.state lines.0 c.lines.reader
          c.next_line.follows.lender-at-none c.next_line.result line (read_line_in line)
          lines.2 c.next_line.follows.holds-at-none
          (c.in-Ok-Some.is ∙ ap Ok c.in-Ok-Some.field-0-is) refl,
    )

pub lines-smaller : goal.lines-smaller
lines-smaller g c =
    let on = line_advances c.lines.reader c.next_line.follows.lender-at-none c.next_line.result
    c.in-Ok-Some.line c.next_line.follows.holds-at-none
    (c.in-Ok-Some.is ∙ ap Ok c.in-Ok-Some.field-0-is) in
    omega (arith, on.0, on.1)

pub lines-preserved : goal.lines-preserved
lines-preserved g c =
    let lines = c.lines.invariant in
    let line = c.in-Ok-Some.line in
    let now = c.next_line.follows.lender-at-none in
    let is = c.in-Ok-Some.is ∙ ap Ok c.in-Ok-Some.field-0-is in
    let IsOther : WithStart Line → Type 0 =
    λ line. ¬ (ContainsText c.args.text.now line.item.body) in (
      lines.0 ++ read_line_in line ∷ [],
      All-append IsOther lines.0 (read_line_in line ∷ []) lines.1
          (All-cons IsOther (read_line_in line) []
          (λ contains. false≢true (c.if-is_in.ensures.1 contains))
          (All-nil IsOther)),
      one_more c.args.reader.now.state lines.0 c.lines.reader now c.next_line.result line
          (read_line_in line) lines.2 c.next_line.follows.holds-at-none is refl,
    )

pub returns-in-Ok-None : goal.returns-in-Ok-None
returns-in-Ok-None g c =
    let lines = c.lines.invariant in
    let none = no_more c.args.reader.now.state lines.0 c.lines.reader
    c.next_line.follows.lender-at-none c.next_line.result lines.2
    c.next_line.follows.holds-at-none (c.in-Ok-None.is ∙ ap Ok c.in-Ok-None.field-0-is) in
    (lines.0, lines.1, none.0, none.1)
