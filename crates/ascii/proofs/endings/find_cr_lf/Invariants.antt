use Rattle.std.proofs.Common.{◌≤◌, ◌-◌, length}
use Rattle.ascii.specs.declared.iter.spans.Endings.TheVariants.{CrLf}
use Rattle.ascii.specs.Endings.{FreeUpTo}
use Rattle.ascii.proofs.endings.find_cr_lf.Given as goal

-- no CR LF ends before `from`
abbrev pub invariant-feeds : goal.invariant-feeds
invariant-feeds l = (l.from ≤ length l.text) × FreeUpTo CrLf l.text l.from

-- the bytes that are left
abbrev pub decreases-feeds : goal.decreases-feeds
decreases-feeds l = length l.text - l.from
