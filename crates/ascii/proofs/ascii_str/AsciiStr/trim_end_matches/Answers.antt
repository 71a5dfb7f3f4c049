use Rattle.std.proofs.Common.{rules}
use Rattle.ascii.proofs.TrimLemmas.{TrimsEnd-cut}
use Rattle.ascii.proofs.ascii_str.AsciiStr.trim_end_matches.Goals as goal

pub returns : goal.returns
returns g c = TrimsEnd-cut g.C.Class.is _ _ _ c.last_not.ensures (search rules)
