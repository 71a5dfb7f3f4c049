use Rattle.ascii_search.proofs.WindowLemmas.{found_far, found_near, found_nowhere}
use Rattle.ascii_search.proofs.short_search.first_needle_near.Goals as goal

pub returns-in-Some : goal.returns-in-Some
returns-in-Some c =
    found_near c.args.hay.now c.args.needle.now 1024 c.if-hay-le-SHORT.false c.in-Some.place
    (rw (c.split_at.ensures.front, c.in-Some.is) at c.first_by_masks.ensures)

pub returns-in-Some-find : goal.returns-in-Some-find
returns-in-Some-find c =
    found_far c.args.hay.now c.args.needle.now 1024 c.if-hay-le-SHORT.false
    c.if-needle-gt-SHORT.false
    (rw (c.split_at.ensures.front, c.in_default.is) at c.first_by_masks.ensures)
    c.in-Some-find.place (rw c.in-Some-find.is at c.find.ensures)

pub returns-in-None : goal.returns-in-None
returns-in-None c =
    found_nowhere c.args.hay.now c.args.needle.now 1024 c.if-hay-le-SHORT.false
    c.if-needle-gt-SHORT.false
    (rw (c.split_at.ensures.front, c.in_default.is) at c.first_by_masks.ensures)
    (rw c.in-None.is at c.find.ensures)
