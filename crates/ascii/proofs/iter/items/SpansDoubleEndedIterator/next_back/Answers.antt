use Rattle.std.proofs.Common.{◌≡◌, ◌∷◌, ◌++◌, [], Some, refl, rules, subst}
use Rattle.std.specs.Option.{option_map}
use Rattle.ascii.specs.Cutting.{left_of}
use Rattle.ascii.specs.Found.{part_in}
use Rattle.ascii.specs.Spans.{piece_in}
use Rattle.ascii.specs.Steps.{StepsSpan, at_back}
use Rattle.ascii.proofs.LeftLemmas.{last_placed}
use Rattle.ascii.proofs.iter.items.SpansDoubleEndedIterator.next_back.Goals as goal

pub returns-clause-steps : goal.returns-clause-steps
returns-clause-steps g c =
    let cut = g.C.Cut.cut c.self.inside.on in
    let part = part_in c.in_ok-self.field-0 in
    let last = piece_in c.in_ok-last.last in
    let rest = option_map part_in c.in_ok-last.others in
    let is : c.self.inside.rest ≡ Some c.in_ok-self.field-0 = search rules in
    let found = c.in_ok-last.ensures in
    subst (λ old. (old.items ≡ left_of cut.spans rest ++ last ∷ [])
    × StepsSpan at_back g.C.Cut.cut old (Some c.in_ok-last.last)
    (record { on = c.self.inside.on; items = left_of cut.spans rest; rest = rest })) c.self.view_is
    (rw is (
      found.last,
      (
        refl,
        (
          found.item.0,
          found.item.1,
          record {
            placed = last_placed cut c.tell_laws.ensures part last (left_of cut.spans rest) found.last;
            items = found.last;
            leaves = found.left;
          },
        ),
      ),
    ))
