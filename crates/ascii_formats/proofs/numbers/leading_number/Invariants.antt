use Rattle.std.proofs.Common.{◌≡◌, drop, take}
use Rattle.std.specs.Int.{from_bool}
use Rattle.std.specs.Str.Parse.{digits_value}
use Rattle.ascii_formats.specs.Numbers.{IsNumberUpTo}
use Rattle.ascii.specs.View.{text_of}
use Rattle.ascii_formats.proofs.numbers.leading_number.Given as goal

-- the number so far is that of the digits so far
abbrev pub invariant-loop-position : goal.invariant-loop-position
invariant-loop-position g l =
    let range = g.N.Number.range in
    let digits = drop (from_bool l.minus) (take l.position (text_of l.view)) in
    IsNumberUpTo l.radix (range.most l.minus) digits
    × (l.number ≡ range.number l.minus (digits_value l.radix digits))
    × (range.size l.number ≡ digits_value l.radix digits)
