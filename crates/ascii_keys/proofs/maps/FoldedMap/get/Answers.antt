use Rattle.std.proofs.Common.{sym, arith}
use Rattle.ascii.specs.View.{text_of}
use Rattle.ascii_keys.proofs.FoldedMapLemmas.{no_value, value_there}
use Rattle.ascii_keys.proofs.maps.FoldedMap.get.Goals as goal

pub returns-in-Ok : goal.returns-in-Ok
returns-in-Ok over c = grind (arith, value_there)

pub returns-in-Err : goal.returns-in-Err
returns-in-Err over c =
    sym (no_value c.args.self.now (text_of c.args.key) _ c.in-Err.ensures.absent)
