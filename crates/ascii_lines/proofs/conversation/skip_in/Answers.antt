use Rattle.std.proofs.Common.{Some, arith, rules, ◌≡◌, ◌≢◌}
use Rattle.ascii_lines.specs.declared.skipping.PassEnd.TheVariants as end
use Rattle.ascii_lines.proofs.TurnsLemmas.{skips_end, skips_on}
use Rattle.ascii_lines.proofs.conversation.skip_in.Goals as goal

pub returns-in-Some-Ending : goal.returns-in-Some-Ending
returns-in-Some-Ending c =
    let is : c.part_of_line-n.result.1 ≡ Some end.Ending = search rules in
    let part = rw is at c.part_of_line-n.ensures.part in (
      c.part_of_line-n.ensures.within,
      omega (arith, part.0, c.ranges.start),
      λ on. part.1.some,
      skips_end _ c.args.endings c.args.next c.args.start c.args.text.now
          c.part_of_line-n.result.0 c.part_of_line-n.ensures.within c.after_answer.result
          c.after_answer.ensures part,
    )

pub returns-in-None-3 : goal.returns-in-None-3
returns-in-None-3 c =
    let n = c.part_of_line-n.result.0 in
    let some : n ≢ 0 = search rules in
    let part = rw c.in-None-3.is at c.part_of_line-n.ensures.part in (
      c.part_of_line-n.ensures.within,
      omega (arith, part.0, c.part_of_line-n.ensures.within, c.ranges.start),
      λ on. omega (arith, some),
      skips_on _ c.args.endings c.args.next c.args.start c.args.text.now n
          c.part_of_line-n.ensures.within part,
    )
