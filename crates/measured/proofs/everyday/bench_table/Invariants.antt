use Rattle.std.proofs.Common.{length}
use Rattle.measured.proofs.everyday.bench_table.Given as goal

-- each field is cut from the rest of the line
abbrev pub decreases-fields : goal.decreases-fields
decreases-fields l = length l.rest.bytes.now
