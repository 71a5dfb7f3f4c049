use Rattle.std.proofs.Common.{◌∙◌, sym}
use Rattle.ascii_keys.proofs.AsciiMapLemmas.{sorted_texts, values_texts}
use Rattle.ascii_keys.proofs.maps.AsciiMap.values.Goals as goal

pub returns : goal.returns
returns g c = rw (← c.self.view_is) record {
  values = c.values.ensures.rest ∙ sym (values_texts c.self.inside.entries.entries);
  ordered = sorted_texts c.self.inside.entries.entries c.values.ensures.ordered;
}
