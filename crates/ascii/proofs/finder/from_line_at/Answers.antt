use Rattle.ascii.specs.Found.{part_in}
use Rattle.ascii.proofs.LinesWithLemmas.{after_lines}
use Rattle.ascii.proofs.finder.from_line_at.Goals as goal

pub returns : goal.returns
returns c = after_lines c.args.place c.len.result (part_in c.args.part) (part_in c.to.result)
    (part_in c.from.result) c.split_after_last.result c.requires c.to.ensures.text
    c.split_after_last.ensures c.len.ensures c.from.ensures.start c.from.ensures.text
