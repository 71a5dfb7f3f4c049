-- Worked values of the definitions. docs/CONTRACTS.md quotes them.
use Rattle.std.proofs.Common.{◌≡◌, [], ◌∷◌, List, Some, rules, refl, ℕ, arith}
use Rattle.std.specs.Prelude.{codes}
use Rattle.ascii_base.specs.declared.range.AsciiRange.TheVariants as range
use Rattle.ascii_base.specs.Range.{Fits, part_of}
use Rattle.ascii.specs.ByClass.{whole}
use Rattle.ascii.specs.Cuts.{IsRemainder}
use Rattle.ascii.specs.Pieces.{Remaining}
use Rattle.ascii.specs.TheCuts.{at_terminator}
use Rattle.ascii.specs.View.{text_of}
use Rattle.ascii.specs.declared.ascii_str.AsciiStr.{AsciiStr}
use Rattle.ascii.specs.Found.{lines_of, pieces_of}
use Rattle.ascii.specs.Spans.{piece_size, with_starts}
use Rattle.ascii.specs.StringState.{insert_text}
use Rattle.ascii.specs.declared.iter.spans.Ending.TheVariants.{Absent, CrLf, Lf}

-- a text is the list of its codes
codes_of_a_text : codes "a,b" ≡ 97 ∷ 44 ∷ 98 ∷ []
codes_of_a_text = refl

-- the part of a source in a range; a range that ends after the source does not fit
part_from_2 : part_of (codes "abcd") (range.From 2) ≡ codes "cd"
part_from_2 = refl

range_too_long : ¬ (Fits (range.Range 1 5) 4)
range_too_long = search rules

-- the pieces of a text at a comma, and where each starts
pieces : pieces_of 44 (codes "a,,b") ≡ codes "a" ∷ [] ∷ codes "b" ∷ []
pieces = refl

piece_starts : with_starts piece_size 0 (pieces_of 44 (codes "a,,b"))
    ≡ record { start = 0; item = codes "a" } ∷ record { start = 2; item = [] }
    ∷ record { start = 3; item = codes "b" } ∷ []
piece_starts = refl

-- a remainder is all of the text that is left: not a text that has the same pieces, without the
-- comma that ends the last one
remainder_is_whole : (left : Remaining ℕ (List ℕ)) (view : AsciiStr)
    → left.rest ≡ Some (whole (codes "a,b,")) → text_of view ≡ codes "a,b"
    → ¬ (IsRemainder at_terminator left (Some view))
remainder_is_whole left view is text remainder = grind arith

-- the lines of a text: CR LF ends the first one, and nothing the second
lines : lines_of (120 ∷ 13 ∷ 10 ∷ 121 ∷ [])
    ≡ record { body = codes "x"; ending = CrLf } ∷ record { body = codes "y"; ending = Absent } ∷ []
lines = refl

-- a last LF makes no further line
last_feed : lines_of (120 ∷ 10 ∷ []) ≡ record { body = codes "x"; ending = Lf } ∷ []
last_feed = refl

-- an insertion before position 1
insertion : insert_text (codes "ac") 1 (codes "b") ≡ codes "abc"
insertion = refl
