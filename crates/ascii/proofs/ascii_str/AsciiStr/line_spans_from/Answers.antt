use Rattle.std.proofs.Common.{arith, ℕ, List}
use Rattle.ascii.specs.Found.{line_spans}
use Rattle.ascii.specs.Spans.{WithStart}
use Rattle.ascii.specs.View.{text_of}
use Rattle.ascii.proofs.PlacedLemmas.{lines_placed}
use Rattle.ascii.proofs.SpansLemmas.{line_spans_fit, line_spans_found, line_spans_only}
use Rattle.ascii.proofs.StepsLemmas.{runs_in_order, runs_in_reverse}
use Rattle.ascii.proofs.ascii_str.AsciiStr.line_spans_from.Goals as goal

pub returns-clause-iterates : goal.returns-clause-iterates
returns-clause-iterates c =
    let part : WithStart (List ℕ) =
    record { start = c.args.offset; item = text_of c.args.self } in record {
      spans = line_spans_found part;
      only = line_spans_only part;
      fits = omega (arith, line_spans_fit part, c.requires);
    }

pub returns-clause-loops : goal.returns-clause-loops
returns-clause-loops c = runs_in_order _ _ _

pub returns-clause-loops_back : goal.returns-clause-loops_back
returns-clause-loops_back c = runs_in_reverse _ _ _

pub returns-clause-placed : goal.returns-clause-placed
returns-clause-placed c =
    let part : WithStart (List ℕ) =
    record { start = c.args.offset; item = text_of c.args.self } in
    lines_placed part.start part.item (line_spans part) (line_spans_found part)
