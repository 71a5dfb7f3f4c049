use Rattle.std.proofs.Common.{◌≡◌, ◌<◌, ◌++◌, ◌^◌, List, length, map}
use Rattle.std.specs.Str.{bytes_eq}
use Rattle.ascii.specs.Lines.{Line, LinesOf, bodies}
use Rattle.ascii.specs.View.{text_of}
use Rattle.ascii_keys.specs.Maps.{value_at}
use Rattle.examples.specs.Tally.{CountsBy}
use Rattle.examples.proofs.uniq.count_lines.Given as goal

-- the lines so far are counted, and before those that the text has left
abbrev pub invariant-loop-line : goal.invariant-loop-line
invariant-loop-line l = record {
  lines : List Line;
  are : LinesOf (text_of l.text) lines;
  fits : length lines < 2 ^ 64;
  whole : bodies lines ≡ map text_of l.yielded ++ bodies l.line-iterator;
  counts : CountsBy bytes_eq (map text_of l.yielded) (value_at l.counts);
}
