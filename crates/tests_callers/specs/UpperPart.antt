-- A source with a part of it in upper case.
use Rattle.std.specs.Prelude.{ℕ, List, ◌++◌, drop, length, map, slice_range, take}
use Rattle.ascii.specs.AsciiRange.{AsciiRange}
use Rattle.ascii.specs.Case.{upper_image}
use Rattle.ascii.specs.Range.{end_of, start_of}

-- the source with the part in the range in upper case
abbrev pub upper_part : List ℕ → AsciiRange → List ℕ
upper_part source range =
    let n = length source in
    take (start_of range) source
    ++ map upper_image (slice_range source (start_of range) (end_of range n))
    ++ drop (end_of range n) source
