use Rattle.std.proofs.Common.{ap}
use Rattle.ascii_run.specs.Modes.Lines.{with_line_feed}
use Rattle.ascii_devices.proofs.BufferedLemmas.{AppendsBytes-is}
use Rattle.ascii_run.proofs.modes.lines.put_line.Goals as goal

pub returns : goal.returns
returns g c = AppendsBytes-is (ap with_line_feed c.as_bytes.ensures.codes) c.put_line.ensures
