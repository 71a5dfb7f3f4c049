use Rattle.std.proofs.Common.{subst, sym}
use Rattle.ascii_run.specs.declared.bounded.BoundedMode.TheVariants.{Lines}
use Rattle.ascii_run.specs.Modes.{IsOutput}
use Rattle.ascii_run.specs.Streamed.{stream, whole}
use Rattle.ascii_run.proofs.StreamedLemmas.{is_whole}
use Rattle.ascii_run.proofs.modes.render_output.Goals as goal

pub returns-in_ok-put_streamed-in-Lines-clause-ok : goal.returns-in_ok-put_streamed-in-Lines-clause-ok
returns-in_ok-put_streamed-in-Lines-clause-ok g c =
    let text = c.deref_mut.result.now in
    let output = whole (stream Lines) text in (
      output,
      subst (λ bytes. IsOutput c.args.mode bytes output) c.deref_mut.ensures.value
          (subst (λ mode. IsOutput mode text output) (sym c.in-Lines.is) (is_whole Lines text)),
      c.in_ok-put_streamed-in-Lines.ensures.ok,
    )
