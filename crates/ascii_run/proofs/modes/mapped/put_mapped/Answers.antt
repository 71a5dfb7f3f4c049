use Rattle.std.proofs.Common.{[], ◌+◌, ◌++◌, take, get_or, refl}
use Rattle.std.specs.List.{flat_map}
use Rattle.ascii_run.proofs.PlainRunLemmas.{shown_all, shown_more}
use Rattle.ascii_devices.proofs.BufferedLemmas.{AppendsBytes-is, AppendsBytes-nil}
use Rattle.ascii_devices.proofs.BufferedLemmas.{AppendsBytes-trans, MayFail-still}
use Rattle.ascii_devices.proofs.ListLemmas.{sent_more}
use Rattle.ascii_run.proofs.modes.mapped.put_mapped.Goals as goal

pub segments-init : goal.segments-init
segments-init g c = (c.requires.fail, ([], refl, AppendsBytes-nil _))

pub segments-preserved : goal.segments-preserved
segments-preserved g c =
    let remaining = c.segments.remaining.now in
    let place = c.in-Some.place in
    let done = c.segments.invariant.1.0 in
    let segment = take place remaining in
    let shown = g.S.Show.shown (get_or remaining place 0) in
    let before = c.segments.invariant.1.2 in
    let both = AppendsBytes-trans segment shown c.put_front.ensures c.put_other.ensures in (
      MayFail-still (segment ++ shown) c.segments.invariant.0 both,
      (
        done ++ take (place + 1) remaining,
        sent_more done remaining c.args.codes.now (place + 1) c.segments.invariant.1.1,
        AppendsBytes-is
            (shown_more g.S.Show.is_plain g.S.Show.shown g.S.Show.plain done remaining place c.in-Some.ensures)
            (AppendsBytes-trans (flat_map g.S.Show.shown done) (segment ++ shown) before both),
      ),
    )

pub returns : goal.returns
returns g c =
    let done = c.segments.invariant.1.0 in
    let remaining = c.segments.remaining.now in
    let invariant = c.segments.invariant.1 in
    AppendsBytes-is
    (shown_all g.S.Show.is_plain g.S.Show.shown g.S.Show.plain done remaining c.args.codes.now c.in_default.ensures
    invariant.1)
    (AppendsBytes-trans (flat_map g.S.Show.shown done) remaining invariant.2 c.put.ensures)
