use Rattle.std.proofs.Common.{◌+◌, ◌++◌, [], length, refl, subst, arith}
use Rattle.memchr.specs.Find.{Nowhere, OccursAt}
use Rattle.ascii_run.proofs.LineFeedLemmas.{run_more}
use Rattle.ascii_devices.proofs.BufferedLemmas.{MayFail-still, AppendsBytes-nil, AppendsBytes-trans}
use Rattle.ascii_run.proofs.modes.lines.put_segments.Goals as goal

pub segments-init : goal.segments-init
segments-init g c = (c.requires, ([], λ last. refl, AppendsBytes-nil _))

pub segments-preserved : goal.segments-preserved
segments-preserved g c =
    let done = c.segments.invariant.1.0 in
    let segment = c.split_at.result.0.now in (
      MayFail-still segment c.segments.invariant.0 c.put.ensures,
      (
        done ++ segment,
        grind (arith, run_more),
        AppendsBytes-trans done segment c.segments.invariant.1.2 c.put.ensures,
      ),
    )

pub returns : goal.returns
returns g c =
    let rest = c.segments.remaining.now in (
      c.segments.invariant.1.0,
      c.segments.invariant.1.2,
      record {
        joined = c.segments.invariant.1.1;
        without = subst (λ needle. Nowhere (OccursAt rest needle) 0 (length rest + 1))
            c.new-ending.ensures c.in_default.ensures;
      },
    )
