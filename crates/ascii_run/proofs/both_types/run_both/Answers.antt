use Rattle.ascii.specs.View.{text_of}
use Rattle.ascii_run.specs.Inline.{inline_size}
use Rattle.ascii_run.proofs.RunsLemmas.{runs_agree}
use Rattle.ascii_run.proofs.both_types.run_both.Goals as goal

pub returns-clause-agree : goal.returns-clause-agree
returns-clause-agree c = runs_agree c.args.cmds.now _ _ record {
  text = text_of c.args.view;
  sure1 = 0;
  sure2 = inline_size;
  run1 = rw (← c.in_ok-string.ensures.text) c.in_ok-replies.ensures.run;
  run2 = rw (← c.in_ok-small.ensures.text) c.in_ok-small_replies.ensures.run;
}
