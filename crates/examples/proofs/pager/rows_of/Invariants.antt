use Rattle.std.proofs.Common.{◌≡◌, ◌≤◌, ◌++◌, All, length}
use Rattle.std.specs.List.{flat_map}
use Rattle.ascii.specs.View.{text_of}
use Rattle.examples.proofs.pager.rows_of.Given as goal

abbrev pub invariant-loop-rest : goal.invariant-loop-rest
invariant-loop-rest l = (flat_map text_of l.rows.items ++ text_of l.rest ≡ text_of l.line)
    × All (λ row. length (text_of row) ≤ l.width) l.rows.items

abbrev pub decreases-loop-rest : goal.decreases-loop-rest
decreases-loop-rest l = length (text_of l.rest)
