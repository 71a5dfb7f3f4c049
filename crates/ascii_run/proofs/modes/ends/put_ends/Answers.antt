use Rattle.std.proofs.Common.{[], ◌++◌, arith, rules, refl}
use Rattle.std.specs.Option.{option_map}
use Rattle.ascii.specs.Spans.{line_in}
use Rattle.ascii.proofs.EndsLemmas.{TakesEnd-by}
use Rattle.ascii_run.specs.Modes.Ends.{shown_text}
use Rattle.ascii_run.proofs.EndsOutputLemmas.{output_of_mode, shows_all, shows_more}
use Rattle.ascii_devices.proofs.BufferedLemmas.{MayFail-still, AppendsBytes-nil, AppendsBytes-trans}
use Rattle.ascii_run.proofs.modes.ends.put_ends.Goals as goal

pub loop-end-init : goal.loop-end-init
loop-end-init g c = (search rules, ([], AppendsBytes-nil _, search rules))

pub loop-end-preserved : goal.loop-end-preserved
loop-end-preserved g c =
    let output = c.loop-end.invariant.1.0 in
    let items = c.line_spans-lines.result in
    let left = c.take_end.new.items in
    let answer = option_map line_in c.take_end.result in
    let shown = shown_text c.args.shown answer in (
      MayFail-still shown c.loop-end.invariant.0 c.put_answer.ensures,
      (
        output ++ shown,
        AppendsBytes-trans output shown c.loop-end.invariant.1.1 c.put_answer.ensures,
        shows_more (shown_text c.args.shown) items left c.args.script.now c.loop-end.end-index
            (c.loop-end.lines) _ answer output _
            (omega arith) (search rules) c.loop-end.invariant.1.2
            (TakesEnd-by line_in _ c.take_end.result _ _
            (λ is. (c.take_end.ensures.front is).0) (λ is. (c.take_end.ensures.back is).0)) refl,
      ),
    )

pub returns : goal.returns
returns g c =
    let spans = c.line_spans-lines.result in
    let found = c.line_spans-lines.ensures.iterates.spans in
    let output = c.loop-end.invariant.1.0 in (
      output,
      output_of_mode c.args.shown c.args.script _ spans output found
          (shows_all (shown_text c.args.shown) spans (c.loop-end.lines) c.args.script.now
          c.loop-end.end-index output (omega arith) c.loop-end.invariant.1.2),
      c.loop-end.invariant.1.1,
    )
