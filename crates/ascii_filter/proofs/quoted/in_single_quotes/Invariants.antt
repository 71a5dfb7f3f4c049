use Rattle.std.proofs.Common.{take}
use Rattle.ascii_filter.specs.Quoted.{reading_of}
use Rattle.ascii_filter.specs.Quoted.{bare}
use Rattle.ascii_filter.proofs.QuotedLemmas.{Piece}
use Rattle.ascii_filter.proofs.quoted.in_single_quotes.Given as goal

-- a shell reads what was appended as the bytes so far
abbrev pub invariant-loop-byte : goal.invariant-loop-byte
invariant-loop-byte g l =
    Piece bare l.quoted.items (take l.byte-index l.name) (reading_of l.is_escaping)
