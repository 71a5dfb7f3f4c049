use Rattle.std.proofs.Common.{◌≡◌, ◌≤◌, ◌++◌, length, map}
use Rattle.ascii.specs.Spans.{PieceSpans, items_of, piece_in}
use Rattle.ascii.specs.View.{text_of}
use Rattle.cookbook.specs.Rows.{AllFilled}
use Rattle.cookbook.proofs.table.read_row.Given as goal

-- the fields so far are filled, and before those that the row has left
abbrev pub invariant-loop-span : goal.invariant-loop-span
invariant-loop-span l = record {
  whole : PieceSpans 0 (text_of l.row) 9 (map piece_in l.yielded ++ l.span-iterator.items);
  same : map text_of l.fields.items ≡ items_of (map piece_in l.yielded);
  filled : AllFilled (map piece_in l.yielded);
  within : length l.fields.items ≤ l.columns;
}
