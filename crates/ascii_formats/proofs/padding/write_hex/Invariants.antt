use Rattle.std.proofs.Common.{◌≡◌, ◌-◌, ◌^◌, ◌<◌, ◌⊎◌, drop, false}
use Rattle.std.specs.Fmt.{digits, digits_onto}
use Rattle.ascii_formats.proofs.padding.write_hex.Given as goal

-- the digits of the number are those of the quotient that is left, and those that are written
abbrev pub invariant-loop-written : goal.invariant-loop-written
invariant-loop-written l =
    (digits_onto (64 - l.written) 16 false l.rest (drop (16 - l.written) l.room)
    ≡ digits 16 false l.n)
    × (l.rest < 16 ^ (16 - l.written)) × ((l.written ≡ 0) ⊎ (0 < l.rest))
