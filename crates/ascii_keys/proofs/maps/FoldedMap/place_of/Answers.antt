use Rattle.std.proofs.Common.{arith}
use Rattle.std.proofs.lemmas.Fn.{always_returns_same}
use Rattle.ascii_keys.proofs.FoldedMapLemmas.{gap_found, place_found}
use Rattle.ascii_keys.proofs.maps.FoldedMap.place_of.Goals as goal

-- the closure gives the order of a key and the key that is looked for
pub returns-clause-found : goal.returns-clause-found
returns-clause-found over c = grind (arith, always_returns_same, place_found)

pub returns-clause-absent : goal.returns-clause-absent
returns-clause-absent over c = grind (arith, always_returns_same, gap_found)
