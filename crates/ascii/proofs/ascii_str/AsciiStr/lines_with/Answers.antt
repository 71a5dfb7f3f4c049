use Rattle.std.proofs.Common.{arith, ℕ, List}
use Rattle.std.proofs.lemmas.List.Elements.{All-filter}
use Rattle.ascii.specs.Found.{line_spans}
use Rattle.ascii.specs.Placed.{IsPlaced, body_in}
use Rattle.ascii.specs.Spans.{WithStart}
use Rattle.ascii.specs.View.{text_of}
use Rattle.ascii.proofs.LinesWithLemmas.{lines_with_are, lines_with_fit}
use Rattle.ascii.proofs.PlacedLemmas.{lines_placed}
use Rattle.ascii.proofs.SpansLemmas.{line_spans_found}
use Rattle.ascii.proofs.StepsLemmas.{runs_in_order}
use Rattle.ascii.proofs.ascii_str.AsciiStr.lines_with.Goals as goal

pub returns-clause-lines : goal.returns-clause-lines
returns-clause-lines g c =
    let part : WithStart (List ℕ) = record { start = 0; item = text_of c.args.self } in (
      line_spans part,
      line_spans_found part,
      lines_with_are g.F.AnyFinder.image (g.F.AnyFinder.wanted c.args.finder.now) part,
    )

pub returns-clause-placed : goal.returns-clause-placed
returns-clause-placed g c =
    let part : WithStart (List ℕ) = record { start = 0; item = text_of c.args.self } in
    All-filter _ (λ line. IsPlaced 0 part.item (body_in line)) (line_spans part)
    (lines_placed 0 part.item (line_spans part) (line_spans_found part))

pub returns-clause-fits : goal.returns-clause-fits
returns-clause-fits g c =
    let part : WithStart (List ℕ) = record { start = 0; item = text_of c.args.self } in
    omega (
      arith,
      lines_with_fit g.F.AnyFinder.image (g.F.AnyFinder.wanted c.args.finder.now) part,
    )

pub returns-clause-loops : goal.returns-clause-loops
returns-clause-loops g c = runs_in_order _ _ _
