use Rattle.std.proofs.Common.{◌+◌, ◌-◌, ◌≤◌}
use Rattle.memchr.specs.Find.{Nowhere}
use Rattle.ascii_search.specs.Masks.{OccursBy}
use Rattle.ascii_search.proofs.short_search.first_marked.Given as goal

-- the needle is at no position before the first one whose bit is left
abbrev pub invariant-loop-bit : goal.invariant-loop-bit
invariant-loop-bit g l = record {
  inside : l.tested ≤ 64;
  before : Nowhere (OccursBy g.M.Comparison.image l.hay l.needle) l.start (l.start + l.tested);
}

abbrev pub decreases-loop-bit : goal.decreases-loop-bit
decreases-loop-bit g l = 64 - l.tested
