use Rattle.ascii.specs.Class.{IsWhitespace}
use Rattle.ascii.proofs.TrimLemmas.{TrimsStart-cut}
use Rattle.ascii_c.proofs.ascii_trim_start.Goals as goal

pub returns-clause-trims : goal.returns-clause-trims
returns-clause-trims c =
    TrimsStart-cut IsWhitespace c.args.bytes.now c.first_not_whitespace.result c.unwrap_or.result
    c.first_not_whitespace.ensures c.unwrap_or.ensures
