use Rattle.std.proofs.Common.{◌++◌, map}
use Rattle.std.specs.List.{All}
use Rattle.ascii.specs.Spans.{PieceSpans, piece_in}
use Rattle.ascii.specs.View.{text_of}
use Rattle.cookbook.specs.Hosts.{IsLabel}
use Rattle.cookbook.proofs.hosts.HostName.parse.Given as goal

-- the pieces so far are labels, and before those that the name has left
abbrev pub invariant-loop-label : goal.invariant-loop-label
invariant-loop-label l = record {
  whole : PieceSpans 0 (text_of l.name) 46 (map piece_in l.yielded ++ l.label-iterator.items);
  labels : All (λ label. IsLabel label.item) (map piece_in l.yielded);
}
