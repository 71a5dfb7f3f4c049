use Rattle.std.proofs.Common.{refl}
use Rattle.ascii.proofs.LinesByLemmas.{strict_line}
use Rattle.ascii.proofs.endings.split_strict_cr_lf.Goals as goal

pub returns-clause-line : goal.returns-clause-line
returns-clause-line c = (strict_line 0 c.args.line.now (record {
  start = 0;
  item = record { body = c.split_cr_lf.result.0.now; ending = c.split_cr_lf.result.1 };
}) (record { lines = c.split_cr_lf.ensures.line; starts = refl }) c.requires).lines
