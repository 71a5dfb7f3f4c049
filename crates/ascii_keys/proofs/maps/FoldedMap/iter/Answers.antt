use Rattle.std.proofs.Common.{◌∙◌}
use Rattle.ascii_keys.proofs.FoldedMapLemmas.{values_are}
use Rattle.ascii_keys.proofs.maps.FoldedMap.iter.Goals as goal

pub returns : goal.returns
returns over c = rw (← c.self.view_is) record {
  entries = c.new.ensures ∙ c.as_slice.ensures.value;
  ordered = c.self.invariant;
  values = values_are c.self.inside.entries.items c.self.invariant;
}
