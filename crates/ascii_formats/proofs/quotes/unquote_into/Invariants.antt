use Rattle.std.proofs.Common.{◌≡◌, ◌+◌, ◌≤◌, ◌++◌, length}
use Rattle.ascii.specs.Code.{code_of}
use Rattle.ascii.specs.View.{text_of}
use Rattle.ascii_formats.specs.Quotes.{unquoted}
use Rattle.ascii_formats.proofs.quotes.unquote_into.Given as goal

abbrev pub invariant-codes : goal.invariant-codes
invariant-codes g l = (l.string.text ++ unquoted (code_of l.escape) (text_of l.rest)
    ≡ unquoted (code_of l.escape) (text_of l.view))
    × (length l.string.text + length (text_of l.rest) ≤ l.string.capacity)

abbrev pub decreases-codes : goal.decreases-codes
decreases-codes g l = length (text_of l.rest)
