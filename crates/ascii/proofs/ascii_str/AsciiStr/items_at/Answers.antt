use Rattle.std.proofs.Common.{ap, arith, ◌∙◌}
use Rattle.std.proofs.lemmas.List.{length-map}
use Rattle.ascii.specs.ByClass.{whole}
use Rattle.ascii.specs.Spans.{items_of}
use Rattle.ascii.specs.View.{text_of}
use Rattle.ascii.proofs.StepsLemmas.{runs_in_order, runs_in_reverse}
use Rattle.ascii.proofs.ascii_str.AsciiStr.items_at.Goals as goal

pub returns-clause-iterates : goal.returns-clause-iterates
returns-clause-iterates g c =
    let laws = c.tell_laws.ensures in
    let spans = c.spans_at.ensures.iterates in
    record {
      are = ap items_of spans.are ∙ laws.same (whole (text_of c.args.self));
      fits = omega (arith, length-map c.spans_at.result.items (λ span. span.item), spans.fits);
      rest = spans.rest;
      loops = runs_in_order _ _ _;
      loops_back = runs_in_reverse _ _ _;
    }
