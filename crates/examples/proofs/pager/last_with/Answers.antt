use Rattle.ascii.specs.View.{text_of}
use Rattle.examples.proofs.PagerLemmas.{last_inside, last_of_run}
use Rattle.examples.proofs.pager.last_with.Goals as goal

pub returns-clause-last : goal.returns-clause-last
returns-clause-last c =
    let lines = c.lines_with.ensures.lines in
    let run = c.last.ensures.runs in (
      lines.0,
      lines.1,
      last_of_run c.args.word.now lines.0 run.0 (rw run.1 lines.2) run.2
          (c.lines_with.ensures.loops run.0 run.0.seen) c.last.result run.3,
    )

pub returns-clause-inside : goal.returns-clause-inside
returns-clause-inside c =
    let lines = c.lines_with.ensures.lines in
    let run = c.last.ensures.runs in
    last_inside c.args.word.now lines.0 run.0 (rw run.1 lines.2) run.2
    (c.lines_with.ensures.loops run.0 run.0.seen) (text_of c.args.text)
    (rw run.1 c.lines_with.ensures.placed) c.last.result run.3
