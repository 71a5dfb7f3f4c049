use Rattle.std.proofs.Common.{rules, take}
use Rattle.std.proofs.lemmas.List.{take_more}
use Rattle.examples.proofs.HeadLemmas.{one_more, stops_at}
use Rattle.examples.specs.Head.{IsHeaderOf}
use Rattle.examples.proofs.head.read_headers.Goals as goal

pub returns-in-Err : goal.returns-in-Err
returns-in-Err c =
    let line = c.index-lines-index in
    stops_at c.args.lines.now c.loop-index.index line.result _ _ c.loop-index-test.true line.is
    c.loop-index.invariant (search rules)

pub returns-in-Ok-Some : goal.returns-in-Ok-Some
returns-in-Ok-Some c =
    let line = c.index-lines-index in
    let header : IsHeaderOf line.result c.in-Ok.header = search rules in
    stops_at c.args.lines.now c.loop-index.index line.result _ _ c.loop-index-test.true line.is
    c.loop-index.invariant (c.in-Ok.header, header, search rules)

pub loop-index-preserved : goal.loop-index-preserved
loop-index-preserved c =
    let lines = c.args.lines.now in
    let at = c.loop-index.index in
    let line = c.index-lines-index in
    let ensures = c.in-Ok-None.ensures in
    let header : IsHeaderOf line.result c.in-Ok.header = search rules in
    rw (take_more lines at line.result c.loop-index-test.true, ← line.is)
    (one_more (take at lines) line.result c.in-Ok.header c.loop-index.headers c.insert.new.self
    c.loop-index.invariant header (cc) ensures.puts (search rules))
