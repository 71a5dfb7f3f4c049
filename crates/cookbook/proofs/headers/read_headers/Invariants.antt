use Rattle.std.proofs.Common.{◌++◌, map}
use Rattle.std.specs.List.{AllZip}
use Rattle.ascii.specs.Spans.{LineSpansOf, line_in}
use Rattle.ascii.specs.View.{text_of}
use Rattle.cookbook.specs.Headers.{IsHeaderOf}
use Rattle.cookbook.proofs.headers.read_headers.Given as goal

-- the lines so far are headers, and before those that the block has left
abbrev pub invariant-loop-line : goal.invariant-loop-line
invariant-loop-line l = record {
  whole : LineSpansOf 0 (text_of l.block) (map line_in l.yielded ++ l.line-iterator);
  each : AllZip IsHeaderOf (map line_in l.yielded) l.headers.items;
}
