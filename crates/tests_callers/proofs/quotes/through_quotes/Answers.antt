use Rattle.std.proofs.Common.{◌≡◌, ℕ, List, [], Err, append-nil, rules, subst}
use Rattle.std.specs.List.{flat_map}
use Rattle.ascii.specs.Code.{code_of}
use Rattle.ascii.specs.View.{text_of}
use Rattle.ascii_formats.specs.Quotes.{StartsQuoted, quoted_code, quoted_text}
use Rattle.ascii_formats.proofs.QuotesLemmas.{quoted_once, quoted_taken, written_starts}
use Rattle.ascii_formats.proofs.QuotesLemmas.{written_unquoted}
use Rattle.tests_callers.proofs.quotes.through_quotes.Goals as goal

-- a text in quotes is taken with nothing after it
starts : (q e : ℕ) (text : List ℕ)
    → StartsQuoted q e (quoted_text q e text) (flat_map (quoted_code q e) text) []
starts q e text =
    subst (λ whole. StartsQuoted q e whole (flat_map (quoted_code q e) text) [])
    (append-nil (quoted_text q e text)) (written_starts q e text [] (λ same. tt))

pub unreachable-requires : goal.unreachable-requires
unreachable-requires c =
    let q = code_of c.args.quote in
    let e = code_of c.args.escape in
    let text = text_of c.args.view in
    let whole : text_of c.as_ascii_str.result ≡ quoted_text q e text = search rules in
    quoted_taken (λ (taken : List ℕ). taken) (λ taken. taken) q e (quoted_text q e text) _ []
    (Err c.in-Err.field-0) (starts q e text) (rw whole at c.in-Err.ensures)

pub returns : goal.returns
returns c =
    let q = code_of c.args.quote in
    let e = code_of c.args.escape in
    let text = text_of c.args.view in
    let whole : text_of c.as_ascii_str.result ≡ quoted_text q e text = search rules in
    let taken = rw whole at c.in-Ok.ensures in
    let inside = (quoted_once q e (quoted_text q e text) _ _ _ _ taken (starts q e text)).0 in
    rw (inside, written_unquoted q e text) at c.unquote.ensures.text
