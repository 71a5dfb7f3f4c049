use Rattle.std.proofs.Common.{◌≤◌, ◌-◌, length, take}
use Rattle.ascii_formats.specs.Unescape.{Unescapes}
use Rattle.ascii.specs.View.{text_of}
use Rattle.ascii_formats.proofs.unescape.unescape_into.Given as goal

abbrev pub invariant-pieces : goal.invariant-pieces
invariant-pieces g l = record {
  inside : l.at ≤ length (text_of l.view);
  short : length l.string.text ≤ l.at;
  room : length (text_of l.view) ≤ l.string.capacity;
  read : Unescapes (take l.at (text_of l.view)) l.string.text;
}

abbrev pub decreases-pieces : goal.decreases-pieces
decreases-pieces g l = length (text_of l.view) - l.at
