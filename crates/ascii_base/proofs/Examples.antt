-- What the definitions give at single values.
use Rattle.std.proofs.Common.{ℕ, ◌≡◌, ◌≢◌, pos, negsuc, rules, refl}
use Rattle.ascii_base.specs.Caret.{IsCaretPair}
use Rattle.ascii_base.specs.Case.{lower_image}
use Rattle.ascii_base.specs.Class.{IsDigitIn, IsWhitespace, IsAsciiWhitespace}
use Rattle.ascii_base.specs.Printable.{printable_of}
use Rattle.ascii_base.specs.ToAscii.{IsCode, IsNotAscii}

-- line feed is written ^J, delete ^?, and `E` has no caret notation
line_feed_pair : IsCaretPair 10 74
line_feed_pair = search rules

delete_pair : IsCaretPair 127 63
delete_pair = search rules

no_pair : (m : ℕ) → ¬ (IsCaretPair 69 m)
no_pair m = search rules

-- ^D is 4, and a grave stands for nothing
read_pair : (n : ℕ) → IsCaretPair n 68 → n ≡ 4
read_pair n = search rules

no_read : (n : ℕ) → ¬ (IsCaretPair n 96)
no_read n = search rules

-- -1 and 128 are not codes, 127 is one
below : IsNotAscii (negsuc 0)
below = search rules

above : IsNotAscii (pos 128)
above = search rules

highest : IsCode (pos 127)
highest = search rules

-- `0` is a digit in radix 1 and not in 0, `z` in 36 and not in 35
zero_in_1 : IsDigitIn 1 48
zero_in_1 = search rules

zero_in_0 : ¬ (IsDigitIn 0 48)
zero_in_0 = search rules

z_in_36 : IsDigitIn 36 122
z_in_36 = search rules

z_in_35 : ¬ (IsDigitIn 35 122)
z_in_35 = search rules

-- without case `[` and `{` differ, `Z` and delete too, and `Z` is `z`
brackets : lower_image 91 ≢ lower_image 123
brackets = search rules

delete_apart : lower_image 90 ≢ lower_image 127
delete_apart = search rules

letters : lower_image 90 ≡ lower_image 122
letters = refl

-- null, line feed and delete have pictures, space has none
pictures : (printable_of 0 ≡ 9216) × (printable_of 10 ≡ 9226) × (printable_of 127 ≡ 9249)
    × (printable_of 32 ≡ 32)
pictures = (refl, refl, refl, refl)

-- vertical tab is whitespace by one class and not by the other
vertical_tab : IsWhitespace 11 × ¬ (IsAsciiWhitespace 11)
vertical_tab = search rules
