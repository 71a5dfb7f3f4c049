use Rattle.std.proofs.Common.{◌≡◌, ◌+◌, ◌<◌, ◌++◌, ◌∷◌, [], drop, length, take, arith}
use Rattle.std.proofs.Common.{length-take-le, suc}
use Rattle.std.proofs.lemmas.List.{take_more, take-append-drop}
use Rattle.std.proofs.Math.Seq.{drop-cons}
use Rattle.std.proofs.lemmas.Result.{err_from_is_err_and}
use Rattle.ascii_run.specs.Step.{value_of_reply}
use Rattle.ascii_run.proofs.EditLemmas.{edited_by, edits_more, edits_stop}
use Rattle.ascii_run.proofs.commands.edit.Goals as goal

pub returns-in_err-check_reply-clause-err : goal.returns-in_err-check_reply-clause-err
returns-in_err-check_reply-clause-err g c =
    let cmds = c.args.cmds.now in
    let k = c.loop-k.k in
    let cmd = c.index-cmds-k.result in
    let lt : k < length cmds = omega arith in
    let cut : cmds ≡ take k cmds ++ cmd ∷ drop (suc k) cmds =
    grind (arith, take-append-drop, drop-cons) in
    let exit = err_from_is_err_and c.from_residual.result c.from_residual.ensures.1 in
    rw (exit.1, exit.2)
    (edits_stop c.args.buf.now.text cmds (take k cmds) (drop (suc k) cmds) k cmd c.loop-k.buf.text
    (value_of_reply c.step.result) c.step.new.buf.text c.in_err-check_reply.field-0.0
    cut (omega (arith, length-take-le k cmds)) c.loop-k.invariant c.step.ensures.step
    c.in_err-check_reply.ensures.err)

pub loop-k-preserved : goal.loop-k-preserved
loop-k-preserved g c =
    let cmds = c.args.cmds.now in
    let k = c.loop-k.k in
    let cmd = c.index-cmds-k.result in
    let lt : k < length cmds = omega arith in
    let more : take (k + 1) cmds ≡ take k cmds ++ cmd ∷ [] = grind (arith, take_more) in
    grind (arith, edits_more, edited_by)
