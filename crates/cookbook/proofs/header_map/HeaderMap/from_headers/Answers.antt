use Rattle.std.proofs.Common.{take}
use Rattle.std.proofs.lemmas.List.{take_all, take_more}
use Rattle.cookbook.proofs.HeaderMapLemmas.{no_values, values_next}
use Rattle.cookbook.proofs.header_map.HeaderMap.from_headers.Goals as goal

pub loop-header-init : goal.loop-header-init
loop-header-init c = rw c.new-values.ensures no_values

pub loop-header-preserved : goal.loop-header-preserved
loop-header-preserved c =
    let at = c.loop-header.header-index in
    let item = c.header-item.result in
    rw (take_more c.args.headers.now at item c.loop-header-test.true, ← c.header-item.is)
    (values_next c.loop-header.values c.insert.new.self (take at c.args.headers.now) item
    c.in_ok-insert.ensures.puts c.loop-header.invariant)

pub returns : goal.returns
returns c =
    rw (← take_all c.loop-header.header-index c.args.headers.now c.loop-header-test.false)
    c.loop-header.invariant
