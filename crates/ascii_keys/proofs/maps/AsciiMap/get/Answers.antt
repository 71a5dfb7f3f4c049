use Rattle.std.proofs.Common.{◌∙◌}
use Rattle.ascii_keys.proofs.AsciiMapLemmas.{lookup_texts}
use Rattle.ascii_keys.proofs.maps.AsciiMap.get.Goals as goal

pub returns : goal.returns
returns g c = rw (← c.self.view_is, ← c.as_str.ensures)
    (c.get.ensures.value ∙ lookup_texts c.as_str.result.now c.self.inside.entries.entries)
