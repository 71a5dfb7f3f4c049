use Rattle.std.proofs.Common.{◌-◌, ◌≤◌}
use Rattle.memchr.specs.Find.{Nowhere}
use Rattle.ascii_search.specs.Masks.{OccursBy}
use Rattle.ascii_search.proofs.short_search.first_by_blocks.Given as goal

-- the needle is at no position before `tested`
abbrev pub invariant-loop-tested : goal.invariant-loop-tested
invariant-loop-tested g l = record {
  inside : l.tested ≤ l.positions;
  before : Nowhere (OccursBy g.M.Comparison.image l.hay l.needle) 0 l.tested;
}

abbrev pub decreases-loop-tested : goal.decreases-loop-tested
decreases-loop-tested g l = l.positions - l.tested
