use Rattle.std.proofs.Common.{◌++◌, map}
use Rattle.std.specs.List.{All}
use Rattle.ascii.specs.Pieces.{IsUnique, Pieces}
use Rattle.ascii.specs.Code.{code_of}
use Rattle.ascii.specs.View.{text_of}
use Rattle.example_smtp.proofs.paths.are_between.Given as goal

-- the parts so far are accepted, and before those that the text has left
abbrev pub invariant-loop-part : goal.invariant-loop-part
invariant-loop-part g l = record {
  whole : Pieces (text_of l.text) (code_of l.fn.separator)
      (map text_of l.yielded ++ l.part-iterator.items);
  only : IsUnique (Pieces (text_of l.text) (code_of l.fn.separator))
      (map text_of l.yielded ++ l.part-iterator.items);
  parts : All g.P.Part.is (map text_of l.yielded);
}
