use Rattle.std.proofs.Common.{◌-◌, ◌^◌}
use Rattle.examples.proofs.paths.main.Given as goal

-- the positions that are left
abbrev pub decreases-names : goal.decreases-names
decreases-names l = 2 ^ 64 - l.reader.state.start
