use Rattle.std.proofs.lemmas.List.Elements.{All-rest}
use Rattle.ascii.specs.Placed.{IsPlaced}
use Rattle.ascii_formats.specs.Parts.{part_text}
use Rattle.ascii_formats.proofs.part_iter.PartsIterator.next.Goals as goal

pub invariant_of-self-2 : goal.invariant_of-self-2
invariant_of-self-2 g c = All-rest (IsPlaced 0 (part_text c.self.inside.of)) _ _ _
    c.in_ok-start.ensures.2 c.self.invariant
