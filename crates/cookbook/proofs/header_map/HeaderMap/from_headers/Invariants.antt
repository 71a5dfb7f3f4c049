use Rattle.std.proofs.Common.{take}
use Rattle.cookbook.specs.HeaderMap.{HasLastValues, values_in}
use Rattle.cookbook.proofs.header_map.HeaderMap.from_headers.Given as goal

-- the values of the headers so far
abbrev pub invariant-loop-header : goal.invariant-loop-header
invariant-loop-header l = HasLastValues (take l.header-index l.headers) (values_in l.values)
