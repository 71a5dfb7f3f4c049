use Rattle.std.proofs.Common.{subst, sym}
use Rattle.ascii_run.specs.Run.{IsPlainRun, NeverOutOfMemory, Run, outcome}
use Rattle.tests_callers.proofs.both_types.run_plainly.Goals as goal

pub returns : goal.returns
returns g c =
    let old = (g.B.AsciiBuf.state c.args.buf.now).text in
    let new = (g.B.AsciiBuf.state c.run.new.buf).text in
    let sure = g.B.AsciiBuf.sure in
    let cmds = c.args.cmds.now in
    let same = c.deref.ensures.value in
    let is_run = subst (λ replies. Run sure old cmds replies new) (sym same)
    c.in_ok-replies.ensures.run in
    subst (λ replies. NeverOutOfMemory replies → IsPlainRun old cmds (outcome replies new)) same
    (c.plain_run.ensures sure old new is_run)
