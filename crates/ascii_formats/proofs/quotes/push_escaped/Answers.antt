use Rattle.std.proofs.Common.{◌+◌, rules}
use Rattle.std.proofs.lemmas.Result.{err_from_is_err_and}
use Rattle.ascii.specs.Code.{code_of}
use Rattle.ascii.specs.View.{text_of}
use Rattle.ascii_formats.specs.Quotes.{quoted_code}
use Rattle.ascii_formats.proofs.PaddingLemmas.{some_text, text_more}
use Rattle.ascii_formats.proofs.quotes.push_escaped.Goals as goal

pub returns-in_err-push_code : goal.returns-in_err-push_code
returns-in_err-push_code g c =
    let text = text_of c.args.view in
    let written = quoted_code (code_of c.args.quote) (code_of c.args.escape) in
    let p = err_from_is_err_and c.from_residual.result c.from_residual.ensures.1 in
    let part = rw c.char_at.ensures at c.in_err-push_code.ensures in
    rw p.1 (some_text written text (c.codes.at + 1) _ _ _ p.0 (text_more written text c.codes.at
    _ _ _ _ (search rules) c.codes.invariant part))
