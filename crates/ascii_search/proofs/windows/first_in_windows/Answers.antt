use Rattle.std.proofs.Common.{◌∙◌, ◌+◌, ◌≤◌, arith, length, map}
use Rattle.std.proofs.lemmas.List.{length-map}
use Rattle.ascii_base.specs.Case.{lower_image}
use Rattle.ascii_search.proofs.WindowLemmas.{first_in_window, image_of_window, nowhere_in_window}
use Rattle.ascii_search.proofs.windows.first_in_windows.Goals as goal

pub returns-in-Some : goal.returns-in-Some
returns-in-Some c =
    let hay = c.args.hay.now in
    let start = c.loop-start.start in
    let end = c.min-end.result in
    first_in_window (map lower_image hay) (map lower_image c.args.needle.now) start end
    (omega (arith, c.min-end.ensures, c.loop-start-test.true))
    (omega (arith, c.min-end.ensures, length-map hay lower_image))
    c.args.from c.loop-start.invariant.after c.loop-start.invariant.before c.in-Some.found
    (grind (arith, image_of_window))

pub loop-start-preserved : goal.loop-start-preserved
loop-start-preserved c =
    let hay = c.args.hay.now in
    let needle = c.args.needle.now in
    let start = c.loop-start.start in
    let end = c.min-end.result in
    let size = length-map needle lower_image in
    let fits : start + length needle ≤ end = grind arith in
    let before = nowhere_in_window (map lower_image hay) (map lower_image needle) start end
    (omega (arith, fits)) (omega (arith, c.min-end.ensures, length-map hay lower_image))
    c.args.from c.loop-start.invariant.after c.loop-start.invariant.before
    (omega (arith, fits, size)) (rw (
      c.in_lower_case-window.ensures ∙ image_of_window lower_image hay start end,
      c.in_lower_case-folded.ensures,
    ) at c.in_default.ensures) in
    record {
      after = omega (arith, fits);
      inside = omega (arith, fits, c.min-end.ensures);
      before = λ k from to. before k from (omega (arith, to, size));
    }

pub returns : goal.returns
returns c k from to occurs =
    let fits = occurs.fits in
    let size = length-map c.args.hay.now lower_image in
    let least = length-map c.args.needle.now lower_image in
    c.loop-start.invariant.before k from
    (omega (arith, fits, size, least, c.loop-start-test.false)) occurs
