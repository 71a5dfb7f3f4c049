use Rattle.std.proofs.Common.{ℕ, List, length, drop, ◌-◌}
use Rattle.std.specs.Prelude.{◌↔◌}
use Rattle.ascii_formats.specs.Quotes.{ClosesBefore}
use Rattle.ascii_formats.proofs.quotes.closing_quote.Given as goal

abbrev pub invariant-scan : goal.invariant-scan
invariant-scan l = (rest : List ℕ)
    → ClosesBefore l.quote l.escape l.bytes rest
    ↔ ClosesBefore l.quote l.escape (drop l.at l.bytes) rest

abbrev pub decreases-scan : goal.decreases-scan
decreases-scan l = length l.bytes - l.at
