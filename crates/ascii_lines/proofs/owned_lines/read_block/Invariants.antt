use Rattle.std.proofs.Common.{◌-◌, map, vec_len}
use Rattle.ascii_lines.specs.CollectedLines.{IsBlock, owned_line_in}
use Rattle.ascii_lines.specs.LineReader.{YieldsLines}
use Rattle.ascii_lines.proofs.owned_lines.read_block.Given as goal

-- the lines so far were returned, and none of them is empty
abbrev pub invariant-lines : goal.invariant-lines
invariant-lines g l =
    YieldsLines l.fn.reader.state (map owned_line_in l.lines.items) l.reader.state
    × IsBlock l.most (map owned_line_in l.lines.items)

-- the lines that may yet be returned
abbrev pub decreases-lines : goal.decreases-lines
decreases-lines g l = l.most - vec_len l.lines
