use Rattle.std.proofs.Common.{◌++◌, ◌∙◌, take}
use Rattle.ascii_devices.proofs.BufferedLemmas.{sends_more}
use Rattle.ascii_devices.proofs.ListLemmas.{sent_more}
use Rattle.ascii_devices.proofs.buffered.write_each.Goals as goal

pub writes-preserved : goal.writes-preserved
writes-preserved g c =
    let sent = c.writes.invariant.0 in
    let remaining = c.writes.remaining.now in (
      sent ++ take c.in_ok-n.n remaining,
      sends_more _ _ _ _ _ _ sent (take c.in_ok-n.n remaining) c.writes.invariant.1
          (c.in_ok-n.ensures.bytes, c.in_ok-n.ensures.history),
      sent_more sent remaining c.args.bytes.now c.in_ok-n.n c.writes.invariant.2,
      c.in_ok-n.ensures.count ∙ c.writes.invariant.3,
      c.in_ok-n.ensures.aside ∙ c.writes.invariant.4,
    )
