-- The start and the end of each form of a range over `n` bytes, in numbers that do not wrap.
use Rattle.std.specs.Prelude.{ℕ, ◌+◌, ◌≤◌, List, length, slice_range}
use Rattle.ascii_base.specs.declared.range.AsciiRange.{AsciiRange}
use Rattle.ascii_base.specs.declared.range.AsciiRange.TheVariants.{Full, From, To, Range, Inclusive}
use Rattle.ascii_base.specs.declared.range.AsciiRange.TheVariants.{ToInclusive}

-- the position of the first byte of the range
abbrev pub start_of : AsciiRange → ℕ
start_of Full = 0
start_of (From a) = a
start_of (To b) = 0
start_of (Range a b) = a
start_of (Inclusive a b) = a
start_of (ToInclusive b) = 0

-- the position after the last byte of the range over `n` bytes
abbrev pub end_of : AsciiRange → ℕ → ℕ
end_of Full n = n
end_of (From a) n = n
end_of (To b) n = b
end_of (Range a b) n = b
end_of (Inclusive a b) n = b + 1
end_of (ToInclusive b) n = b + 1

-- the range `r` lies within `n` bytes
abbrev pub Fits : AsciiRange → ℕ → Type 0
Fits r n = (start_of r ≤ end_of r n) × (end_of r n ≤ n)

-- the items of a list in the range `r`
abbrev pub part_of : List ℕ → AsciiRange → List ℕ
part_of items r = slice_range items (start_of r) (end_of r (length items))
