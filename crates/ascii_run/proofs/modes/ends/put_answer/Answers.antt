use Rattle.std.proofs.Common.{arith}
use Rattle.std.specs.Prelude.{codes}
use Rattle.ascii_devices.proofs.BufferedLemmas.{AppendsBytes-is, AppendsBytes-trans}
use Rattle.ascii_run.proofs.modes.ends.put_answer.Goals as goal

pub returns-in-Body : goal.returns-in-Body
returns-in-Body g c = AppendsBytes-is (grind arith)
    (AppendsBytes-trans (codes "+") _ c.put-2.ensures c.put_line.ensures)

pub returns-in-Span : goal.returns-in-Span
returns-in-Span g c = AppendsBytes-is (grind arith)
    (AppendsBytes-trans (codes "+") _ c.put-2.ensures c.put_span.ensures)
