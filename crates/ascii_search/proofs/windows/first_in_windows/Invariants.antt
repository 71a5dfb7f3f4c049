use Rattle.std.proofs.Common.{◌-◌, ◌≤◌, length, map}
use Rattle.memchr.specs.Find.{Nowhere, OccursAt}
use Rattle.ascii_base.specs.Case.{lower_image}
use Rattle.ascii_search.proofs.windows.first_in_windows.Given as goal

-- the needle is at no position from `from` up to `start`
abbrev pub invariant-loop-start : goal.invariant-loop-start
invariant-loop-start l = record {
  after : l.from ≤ l.start;
  inside : l.start ≤ length l.hay;
  before : Nowhere (OccursAt (map lower_image l.hay) (map lower_image l.needle)) l.from l.start;
}

abbrev pub decreases-loop-start : goal.decreases-loop-start
decreases-loop-start l = length l.hay - l.start
