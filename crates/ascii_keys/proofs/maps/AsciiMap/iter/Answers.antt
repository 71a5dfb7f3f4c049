use Rattle.std.proofs.Common.{◌∙◌, ap}
use Rattle.ascii_keys.proofs.AsciiMapLemmas.{sorted_texts}
use Rattle.ascii_keys.specs.Maps.{texts_of}
use Rattle.ascii_keys.proofs.maps.AsciiMap.iter.Goals as goal

pub returns : goal.returns
returns g c = rw (← c.self.view_is) record {
  entries = c.new.ensures ∙ ap texts_of c.iter.ensures.rest;
  ordered = sorted_texts c.self.inside.entries.entries c.iter.ensures.ordered;
}
