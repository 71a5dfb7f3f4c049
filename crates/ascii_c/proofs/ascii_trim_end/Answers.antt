use Rattle.std.proofs.Common.{rules}
use Rattle.ascii.specs.Class.{IsWhitespace}
use Rattle.ascii.proofs.TrimLemmas.{TrimsEnd-cut}
use Rattle.ascii_c.proofs.ascii_trim_end.Goals as goal

pub returns-clause-trims : goal.returns-clause-trims
returns-clause-trims c =
    TrimsEnd-cut IsWhitespace c.args.bytes.now c.last_not_whitespace.result c.map_or.result
    c.last_not_whitespace.ensures (search rules)
