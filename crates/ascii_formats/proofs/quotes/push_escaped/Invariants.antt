use Rattle.std.proofs.Common.{Ok, take}
use Rattle.std.specs.List.{flat_map}
use Rattle.ascii.specs.Code.{code_of}
use Rattle.ascii.specs.View.{text_of}
use Rattle.ascii_formats.specs.Padding.{AppendsInParts}
use Rattle.ascii_formats.specs.Quotes.{quoted_code}
use Rattle.ascii_formats.proofs.quotes.push_escaped.Given as goal

abbrev pub invariant-codes : goal.invariant-codes
invariant-codes g l = AppendsInParts {E = g.row.B-Refusal.Denot} g.B.Buffer.sure
    (flat_map (quoted_code (code_of l.quote) (code_of l.escape)) (take l.at (text_of l.view)))
    l.fn.string l.string (Ok tt)
