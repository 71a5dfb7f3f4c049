use Rattle.std.proofs.Common.{Ok, replicate}
use Rattle.ascii.specs.Code.{code_of}
use Rattle.ascii_formats.specs.Padding.{AppendsInParts}
use Rattle.ascii_formats.proofs.padding.push_fill.Given as goal

-- as many as the loop has counted are appended
abbrev pub invariant-loop : goal.invariant-loop
invariant-loop g l =
    AppendsInParts {E = g.row.B-Refusal.Denot} g.B.Buffer.sure (replicate l.counter (code_of l.fill)) l.fn.string
    l.string (Ok tt)
