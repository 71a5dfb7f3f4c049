use Rattle.std.proofs.Common.{◌≢◌, [], rules}
use Rattle.ascii.specs.Class.{IsTokenCode}
use Rattle.ascii.specs.View.{text_of}
use Rattle.ascii.proofs.CallerLemmas.{span_first}
use Rattle.cookbook.proofs.headers.read_header.Goals as goal

pub returns-then-not-is_empty : goal.returns-then-not-is_empty
returns-then-not-is_empty c =
    let name = text_of c.in-Some.name in
    let rest = text_of c.span.result.1 in
    let some : rest ≢ [] = search rules in
    let first = span_first IsTokenCode name (text_of c.span.result.0) rest c.span.ensures some in
    (_, _, c.in-Some.ensures, rw c.len.ensures first)
