use Rattle.std.proofs.Common.{◌+◌, rules}
use Rattle.std.proofs.lemmas.Result.{err_from_is_err_and}
use Rattle.ascii.specs.Code.{code_of}
use Rattle.ascii_formats.proofs.PaddingLemmas.{no_part, one_more, some_of}
use Rattle.ascii_formats.proofs.padding.push_fill.Goals as goal

pub loop-init : goal.loop-init
loop-init g c = no_part c.args.string.now

pub returns-in_err-push : goal.returns-in_err-push
returns-in_err-push g c =
    let p = err_from_is_err_and c.from_residual.result c.from_residual.ensures.1 in
    rw p.1 (some_of (c.loop.counter + 1) c.args.count (code_of c.args.fill) _ _ _ p.0 (search rules)
    (one_more c.loop.counter (code_of c.args.fill) _ _ _ _ c.loop.invariant c.in_err-push.ensures))

pub loop-preserved : goal.loop-preserved
loop-preserved g c = one_more _ _ _ _ _ _ c.loop.invariant c.in_ok-push.ensures
