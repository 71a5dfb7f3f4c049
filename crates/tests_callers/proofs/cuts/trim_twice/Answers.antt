use Rattle.std.proofs.Common.{subst, sym}
use Rattle.ascii.specs.Class.{IsWhitespace}
use Rattle.ascii.specs.Trim.{Trims}
use Rattle.ascii.specs.View.{text_of}
use Rattle.ascii.proofs.CallerLemmas.{trims_twice}
use Rattle.tests_callers.proofs.cuts.trim_twice.Goals as goal

pub returns : goal.returns
returns c =
    let text = text_of c.args.view in
    let once = text_of c.trim.result in
    subst (Trims IsWhitespace text) (sym (trims_twice IsWhitespace text once (text_of c.trim-2.result)
    c.trim.ensures c.trim-2.ensures)) c.trim.ensures
