use Rattle.std.proofs.Common.{subst, sym}
use Rattle.ascii_run.specs.Run.{Agree, Run, outcome}
use Rattle.tests_callers.proofs.both_types.run_twice.Goals as goal

pub returns : goal.returns
returns g c =
    let cmds = c.args.cmds.now in
    let old = (g.B.AsciiBuf.state c.args.first.now).text in
    let t1 = (g.B.AsciiBuf.state c.run.new.buf).text in
    let t2 = (g.D.AsciiBuf.state c.run-2.new.buf).text in
    let same1 = c.deref.ensures.value in
    let same2 = c.deref-2.ensures.value in
    let agree = c.runs_agree.ensures t1 t2 (record {
      text = old;
      sure1 = g.B.AsciiBuf.sure;
      sure2 = g.D.AsciiBuf.sure;
      run1 = subst (λ replies. Run g.B.AsciiBuf.sure old cmds replies t1) (sym same1)
          c.in_ok-replies.ensures.run;
      run2 = subst (λ t. Run g.D.AsciiBuf.sure t cmds c.deref-2.result.now t2) c.requires
          (subst (λ replies. Run g.D.AsciiBuf.sure (g.D.AsciiBuf.state c.args.second.now).text
          cmds replies t2) (sym same2) c.in_ok-others.ensures.run);
    }) in
    subst (λ replies. Agree (outcome replies t1) (outcome c.in_ok-others.others.items t2)) same1
    (subst (λ replies. Agree (outcome c.deref.result.now t1) (outcome replies t2)) same2 agree)
