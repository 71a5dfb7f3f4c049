use Rattle.std.proofs.Common.{take}
use Rattle.examples.specs.Head.{AreHeaders}
use Rattle.examples.proofs.head.read_headers.Given as goal

-- the lines so far are headers, those of the map
abbrev pub invariant-loop-index : goal.invariant-loop-index
invariant-loop-index l = AreHeaders (take l.index l.lines) l.headers
