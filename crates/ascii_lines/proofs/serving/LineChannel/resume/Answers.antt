use Rattle.std.proofs.Common.{arith}
use Rattle.ascii_lines.proofs.ServeLemmas.{resumed}
use Rattle.ascii_lines.proofs.serving.LineChannel.resume.Goals as goal

pub returns : goal.returns
returns g c = rw (← c.self.view_is) (grind (arith, resumed))
