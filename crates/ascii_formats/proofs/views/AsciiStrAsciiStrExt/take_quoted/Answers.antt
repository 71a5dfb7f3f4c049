use Rattle.std.proofs.Common.{◌≡◌, Some, drop, ◌∙◌, arith}
use Rattle.std.specs.Prelude.{slice_get}
use Rattle.std.proofs.lemmas.List.{take_rest}
use Rattle.std.proofs.lemmas.Grind.{common_steps}
use Rattle.ascii.specs.Code.{code_of}
use Rattle.ascii.specs.View.{text_of}
use Rattle.ascii_formats.proofs.QuotesLemmas.{not_quoted}
use Rattle.ascii_formats.proofs.views.AsciiStrAsciiStrExt.take_quoted.Goals as goal

pub returns-in_default : goal.returns-in_default
returns-in_default c =
    let text = text_of c.args.self in
    let first : slice_get text 0 ≡ Some (code_of c.args.quote) = grind (arith, common_steps) in
    let tail : text_of c.slice-tail.result ≡ drop 1 text = c.slice-tail.ensures ∙ take_rest text 1 in
    rw c.len.ensures (not_quoted (code_of c.args.quote) (code_of c.args.escape) text first
    (λ rest closes. c.in_default.ensures rest
    (rw (c.as_byte-2.ensures.code, c.as_byte-3.ensures.code, c.as_bytes-2.ensures.codes, tail) closes)))
