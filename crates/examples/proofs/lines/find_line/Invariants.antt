use Rattle.std.proofs.Common.{◌-◌, ◌^◌, List}
use Rattle.ascii.specs.Lines.{Line}
use Rattle.ascii.specs.Spans.{WithStart}
use Rattle.ascii_lines.specs.LineReader.{YieldsLines}
use Rattle.examples.specs.Reading.{AreOthers}
use Rattle.examples.proofs.lines.find_line.Given as goal

-- the lines so far, of which none contains the text
abbrev pub invariant-lines : goal.invariant-lines
invariant-lines g l = (lines : List (WithStart Line)) × AreOthers l.text lines
    × YieldsLines l.fn.reader.state lines l.reader.state

-- the positions that are left
abbrev pub decreases-lines : goal.decreases-lines
decreases-lines g l = 2 ^ 64 - l.reader.state.start
