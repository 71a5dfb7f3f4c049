use Rattle.std.proofs.Common.{rules}
use Rattle.std.proofs.lemmas.Result.{err_from_is_err_and}
use Rattle.ascii.specs.View.{text_of}
use Rattle.ascii.proofs.ExtendLemmas.{Extends-refused}
use Rattle.ascii.proofs.ascii_string.Text.extend_strs.Goals as goal

pub returns-in_err-push_str-clause-extends : goal.returns-in_err-push_str-clause-extends
returns-in_err-push_str-clause-extends g c =
    let p = err_from_is_err_and c.from_residual.result c.from_residual.ensures.1 in
    Extends-refused _ text_of _ _ c.loop-view.self _ c.loop-view.yielded c.loop-view.view-iterator
    c.in-Some.view _ _ p.0 p.1
    (search rules) c.in-Some.ensures.steps c.loop-view.invariant.0 c.loop-view.invariant.1
    c.in_err-push_str.ensures.err c.in_err-push_str.ensures.full c.in_err-push_str.ensures.beyond
