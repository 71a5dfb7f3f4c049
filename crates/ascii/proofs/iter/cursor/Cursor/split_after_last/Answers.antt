use Rattle.std.proofs.Common.{arith}
use Rattle.std.proofs.lemmas.List.{take-append-drop, length-take}
use Rattle.ascii.specs.View.{text_of}
use Rattle.ascii.proofs.SearchLemmas.{cut_at_last, free_of_last, ended_at}
use Rattle.ascii.proofs.iter.cursor.Cursor.split_after_last.Goals as goal

pub returns-in-Some : goal.returns-in-Some
returns-in-Some c =
    let text = text_of c.args.self.view in
    let place = c.in-Some.place in
    let found = c.in-Some.ensures in
    record {
      text = rw (c.to.ensures.text, c.from.ensures.text, take-append-drop);
      before = c.to.ensures.start;
      behind = grind (arith, length-take);
      whole = rw c.to.ensures.text (ended_at c.args.on text place found.0.high found.1);
      free = rw c.from.ensures.text (cut_at_last c.args.on text place found).1;
    }

pub returns-in-None : goal.returns-in-None
returns-in-None c = grind (arith, free_of_last)
