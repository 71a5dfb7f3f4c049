use Rattle.std.proofs.Common.{◌-◌, ◌^◌, ◌≤◌, List, length}
use Rattle.ascii.specs.Lines.{Line}
use Rattle.ascii.specs.Spans.{WithStart}
use Rattle.ascii_lines.specs.LineReader.{YieldsLines}
use Rattle.ascii_lines.proofs.folding.fold_lines.Given as goal

-- the lines so far, of which there are no more than bytes
abbrev pub invariant-lines : goal.invariant-lines
invariant-lines g l = (lines : List (WithStart Line)) × g.F.LineStep.after lines l.state
    × YieldsLines l.fn.reader.state lines l.reader.state
    × (length lines ≤ l.reader.state.start)

-- the positions that are left
abbrev pub decreases-lines : goal.decreases-lines
decreases-lines g l = 2 ^ 64 - l.reader.state.start
