use Rattle.std.proofs.Common.{◌∙◌, ◌-◌, arith, drop, length-drop, take_all}
use Rattle.ascii_devices.proofs.BufferedLemmas.{AppendsBytes-is, AppendsBytes-trans}
use Rattle.ascii_filter.specs.Checked.{place_text}
use Rattle.ascii_filter.proofs.check.put_line.Goals as goal

pub returns : goal.returns
returns g c =
    let start = c.write_place-start.result in
    let room = c.write_place-start.new.room in
    let all =
    take_all (64 - start) (drop start room)
    (omega (arith, length-drop start room, c.write_place-start.array_long)) in
    AppendsBytes-trans c.args.label.now (place_text c.args.other) c.put.ensures
    (AppendsBytes-is (all ∙ c.write_place-start.ensures.text) c.put-2.ensures)
