use Rattle.std.proofs.Common.{◌≡◌, length}
use Rattle.ascii.specs.Found.{line_spans, lines_with, part_in}
use Rattle.ascii.proofs.finder.first_line_with.Given as goal

-- the lines that contain the needle are those among what is left
abbrev pub invariant-loop-place : goal.invariant-loop-place
invariant-loop-place g l =
    lines_with g.F.AnyFinder.image (g.F.AnyFinder.wanted l.finder) (part_in l.fn.part)
    ≡ lines_with g.F.AnyFinder.image (g.F.AnyFinder.wanted l.finder) (part_in l.left)

-- the lines that are left
abbrev pub decreases-loop-place : goal.decreases-loop-place
decreases-loop-place g l = length (line_spans (part_in l.left))
