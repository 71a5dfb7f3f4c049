use Rattle.std.proofs.Common.{arith}
use Rattle.ascii.proofs.ReplaceLemmas.{replaces_all, replaces_more, replaces_nothing}
use Rattle.ascii.proofs.ascii_str.AsciiStr.replace.Goals as goal

pub loop-at-preserved : goal.loop-at-preserved
loop-at-preserved g c = grind (arith, replaces_more)

pub returns-clause-text : goal.returns-clause-text
returns-clause-text g c = grind (arith, replaces_all)

pub returns-then-is_empty-clause-text : goal.returns-then-is_empty-clause-text
returns-then-is_empty-clause-text g c = grind (arith, replaces_nothing)
