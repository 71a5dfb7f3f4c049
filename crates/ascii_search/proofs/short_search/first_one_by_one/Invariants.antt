use Rattle.memchr.specs.Find.{Nowhere}
use Rattle.ascii_search.specs.Masks.{OccursBy}
use Rattle.ascii_search.proofs.short_search.first_one_by_one.Given as goal

-- the needle is at no position that was tested
abbrev pub invariant-loop-position : goal.invariant-loop-position
invariant-loop-position g l = Nowhere (OccursBy g.M.Comparison.image l.hay l.needle) 0 l.position
