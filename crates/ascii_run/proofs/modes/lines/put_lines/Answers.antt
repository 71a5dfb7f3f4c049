use Rattle.std.proofs.Common.{arith}
use Rattle.ascii_run.proofs.LineFeedLemmas.{part_of_lines}
use Rattle.ascii_devices.proofs.BufferedLemmas.{AppendsBytes-is, AppendsBytes-trans}
use Rattle.ascii_run.proofs.modes.lines.put_lines.Goals as goal

pub returns : goal.returns
returns g c =
    let held = c.held_back.result.now in
    let rest = c.put_segments-remaining.result.now in
    let last = c.without_last_cr.result.now in
    let (done, appended, segment) = c.put_segments-remaining.ensures in
    let is = part_of_lines c.args.before c.args.part.now held done rest last c.if-is_empty.ensures
    c.held_back.ensures segment c.without_last_cr.ensures in
    AppendsBytes-is is (grind (arith, AppendsBytes-trans))
