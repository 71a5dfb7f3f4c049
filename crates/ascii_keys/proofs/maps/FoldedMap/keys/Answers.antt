use Rattle.std.proofs.Common.{◌∙◌, ap}
use Rattle.std.specs.Map.{keys_of}
use Rattle.ascii_keys.proofs.SetLemmas.{keys_ascend}
use Rattle.ascii_keys.proofs.maps.FoldedMap.keys.Goals as goal

pub returns : goal.returns
returns over c = record {
  texts = c.new.ensures ∙ ap keys_of c.iter.ensures.entries;
  ordered = keys_ascend c.args.self.now c.iter.ensures.ordered;
}
