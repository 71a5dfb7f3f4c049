use Rattle.std.proofs.Common.{◌∙◌, ap}
use Rattle.ascii_run.specs.Streamed.{front, last_after, stream}
use Rattle.ascii_devices.proofs.BufferedLemmas.{AppendsBytes-is, AppendsBytes-trans}
use Rattle.ascii_run.proofs.streamed.Streamed.put_whole.Goals as goal

pub returns : goal.returns
returns g c =
    let m = stream c.args.self.now in
    let text = c.args.text.now in
    AppendsBytes-trans (front m text) (m.closing (last_after 10 text))
    (AppendsBytes-trans m.opening (m.part 10 text)
    (AppendsBytes-is c.opening.ensures c.put.ensures) c.put_part.ensures)
    (AppendsBytes-is (c.closing.ensures ∙ ap m.closing c.last_of-last.ensures)
    c.put-2.ensures)
