use Rattle.std.proofs.Common.{arith}
use Rattle.std.proofs.lemmas.List.{take-append-le, take_all}
use Rattle.ascii_filter.proofs.EscapedLemmas.{range-cut}
use Rattle.ascii_filter.proofs.escaped.Escaped.give.Goals as goal

pub returns-clause-given : goal.returns-clause-given
returns-clause-given g c =
    let self = c.args.self.now in
    let cut = range-cut self.held self.start c.min-n.result self.end (omega arith) in
    grind (arith, take-append-le, take_all, cut)
