use Rattle.std.proofs.Common.{◌∙◌, ap}
use Rattle.std.specs.Map.{keys_of}
use Rattle.ascii_keys.proofs.sets.AsciiSet.iter.Goals as goal

pub returns : goal.returns
returns c = rw (← c.self.view_is) record {
  texts = c.new.ensures ∙ ap keys_of c.iter.ensures.entries;
  ordered = c.iter.ensures.ordered;
}
