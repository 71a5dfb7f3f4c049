use Rattle.std.proofs.Common.{◌-◌, ◌^◌, map, vec_len}
use Rattle.ascii_lines.specs.CollectedLines.{owned_line_in}
use Rattle.ascii_lines.specs.LineReader.{YieldsLines}
use Rattle.ascii_lines.proofs.owned_lines.collect_lines.Given as goal

-- the lines so far were returned, and no read has failed
abbrev pub invariant-lines : goal.invariant-lines
invariant-lines g l =
    YieldsLines l.fn.reader.state (map owned_line_in l.lines.items) l.reader.state

-- the room left below the largest length
abbrev pub decreases-lines : goal.decreases-lines
decreases-lines g l = 2 ^ 64 - vec_len l.lines
