use Rattle.std.proofs.Common.{◌∙◌, ap, codes, map}
use Rattle.std.specs.List.{join_by}
use Rattle.std.specs.Map.{keys_of}
use Rattle.std.proofs.lemmas.Iterator.{items_from_drains}
use Rattle.std.proofs.lemmas.Iterator.Consumers.{YieldsList-from_rest}
use Rattle.ascii.specs.Case.{lower_image}
use Rattle.examples.proofs.HeadLemmas.{lower_names}
use Rattle.examples.proofs.head.name_list.Goals as goal

pub returns : goal.returns
returns c =
    let keys = YieldsList-from_rest (keys_of c.args.headers.now) c.keys.ensures.texts in
    let joined = c.in_ok-list.ensures.text in
    let end = joined.1.1 in
    let names = items_from_drains joined.0 (end.0, end.1, λ _. (joined.1.0, end.2)) keys in
    let text = rw c.literal.ensures at joined.2 in record {
      names = c.make_ascii_lowercase.ensures.text ∙ (ap (map lower_image) text
          ∙ (lower_names joined.0 ∙ ap (join_by (λ name. map lower_image name) (codes ";")) names));
      ordered = c.keys.ensures.ordered;
    }
