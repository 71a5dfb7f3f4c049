use Rattle.std.proofs.Common.{arith}
use Rattle.std.proofs.lemmas.Result.{err_from_is_err_and}
use Rattle.ascii.proofs.ExtendLemmas.{yields_past}
use Rattle.ascii.proofs.ascii_string.Text.collect_strs.Goals as goal

pub returns-in_err-extend_strs-clause-full : goal.returns-in_err-extend_strs-clause-full
returns-in_err-extend_strs-clause-full g c = grind (arith, err_from_is_err_and, yields_past)
