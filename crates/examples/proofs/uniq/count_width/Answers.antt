use Rattle.std.proofs.Common.{arith}
use Rattle.std.specs.Map.{values_of}
use Rattle.std.proofs.lemmas.Iterator.Consumers.{YieldsList-from_rest, max_from_yields_List}
use Rattle.examples.proofs.uniq.count_width.Goals as goal

pub returns : goal.returns
returns c =
    let values = YieldsList-from_rest (values_of c.args.counts.now) c.values.ensures.values in
    let largest = max_from_yields_List {v = λ value. value.now} c.values.result c.max.result
    c.max.ensures.ran values in
    grind (arith, largest)
