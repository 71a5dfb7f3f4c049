use Rattle.std.proofs.Common.{◌≡◌, ◌≢◌, ◌+◌, ◌<◌, ◌++◌, ◌∷◌, [], length, refl, take, arith}
use Rattle.std.proofs.lemmas.List.{take_more}
use Rattle.std.proofs.lemmas.List.Elements.{All-get_or}
use Rattle.ascii_run.specs.declared.commands.Cmd.TheVariants.{Shrink}
use Rattle.ascii_run.specs.Run.{NeverShrinks}
use Rattle.ascii_run.proofs.RunsLemmas.{run_more, step_sure, step_within}
use Rattle.ascii_run.proofs.commands.run.Goals as goal

pub loop-cmd-preserved : goal.loop-cmd-preserved
loop-cmd-preserved g c =
    let cmds = c.args.cmds.now in
    let i = c.loop-cmd.cmd-index in
    let item = c.cmd-item.result in
    let lt : i < length cmds = omega arith in
    let more : take (i + 1) cmds ≡ take i cmds ++ item ∷ [] = grind (arith, take_more) in
    let keeps : NeverShrinks cmds → item ≢ Shrink = grind (arith, All-get_or) in
    rw (more, c.in_ok-push.ensures.items) record {
      run = run_more _ _ _ _ _ _ _ _ c.loop-cmd.invariant.run
          (step_sure _ _ _ _ c.step.ensures.step _ c.step.ensures.room
          (g.met.B.AsciiBuf.holds_sure c.loop-cmd.buf));
      within = grind (arith, run_more, step_within);
      capacity = grind arith;
      len = rw (c.in_ok-push.ensures.len, c.loop-cmd.invariant.len) refl;
      room = omega (arith, c.loop-cmd.invariant.room, c.push.ensures.capacity);
    }
