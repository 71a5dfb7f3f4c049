use Rattle.std.proofs.Common.{◌-◌, ◌^◌}
use Rattle.examples.proofs.lines.main.Given as goal

-- the positions that are left
abbrev pub decreases-lines : goal.decreases-lines
decreases-lines l = 2 ^ 64 - l.reader.state.start
