use Rattle.std.proofs.Common.{rules}
use Rattle.ascii_base.specs.Class.{IsWhitespace}
use Rattle.ascii.proofs.TrimLemmas.{TrimsEnd-cut}
use Rattle.ascii.proofs.ascii_str.AsciiStr.trim_end.Goals as goal

pub returns : goal.returns
returns c = TrimsEnd-cut IsWhitespace _ _ _ c.last_not_whitespace.ensures (search rules)
