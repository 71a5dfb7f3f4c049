use Rattle.std.proofs.Common.{refl, subst, sym, arith}
use Rattle.std.proofs.lemmas.List.{length-map}
use Rattle.ascii.specs.Cuts.{IsSpansOf}
use Rattle.ascii.proofs.StepsLemmas.{runs_in_order, runs_in_reverse}
use Rattle.ascii.proofs.iter.items.Items.spans.Goals as goal

pub returns : goal.returns
returns g c =
    let cut = g.C.Cut.cut in
    let spans = c.self.inside.spans in
    subst (λ items. IsSpansOf cut items spans) c.self.view_is (record {
      on = refl;
      rest = refl;
      are = c.tell_items.ensures.items;
      same = refl;
      long = sym (length-map spans.items (λ span. span.item));
      placed = grind arith;
      loops = runs_in_order _ _ _;
      loops_back = runs_in_reverse _ _ _;
    })
