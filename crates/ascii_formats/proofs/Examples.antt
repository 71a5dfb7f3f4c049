-- Worked values of the definitions. docs/CONTRACTS.md quotes them.
use Rattle.std.proofs.Common.{◌≡◌, None, Some, arith, rules, false, refl, true}
use Rattle.std.specs.Fmt.{digits}
use Rattle.std.specs.Prelude.{codes, negsuc}
use Rattle.std.below.core.specs.declared.fmt.formatter.Alignment.TheVariants as align
use Rattle.ascii.specs.ByClass.{whole}
use Rattle.ascii_formats.specs.Decimals.{IsDecimalFault, WritesDecimal, decimal_text}
use Rattle.ascii_formats.specs.Numbers.{IsFaultIn, WritesNumberIn, signed_up_to}
use Rattle.ascii_formats.specs.Padding.{padded}
use Rattle.ascii_formats.specs.Quotes.{quoted_code, quoted_text, unquoted}
use Rattle.ascii_formats.proofs.QuotesLemmas.{written_unquoted}
use Rattle.std.specs.List.{flat_map}
use Rattle.ascii_formats.specs.declared.numbers.NumberError.TheVariants.{NotDigit, TooLarge}

-- the least number of an `i8`, and the position of the digit with which one less leaves the range
least : WritesNumberIn (signed_up_to 127) 10 (codes "-128") (negsuc 127)
least = search rules

one_less : IsFaultIn (signed_up_to 127) 10 (codes "-129") (TooLarge 3)
one_less = search rules

-- two characters in the center of five: one more comes after them
center : padded align.Center 5 46 (codes "ab") ≡ codes ".ab.."
center = refl

-- a decimal number without the zero at its end, the fault at a point that nothing follows, and what
-- is written of a number with two places
price : WritesDecimal (codes "-1.50") (record { negative = true; digits = 15; places = 1 })
price = record {
  whole = codes "1";
  fraction = Some (codes "50");
  kept = codes "5";
  parts = record { joined = refl; digits = search rules; point = search rules };
  some = search rules;
  after = search rules;
  trimmed = grind arith;
  digits = refl;
  fits = search rules;
  places = refl;
}

last_point : IsDecimalFault (codes "5.") (NotDigit 1)
last_point = (
  codes "5",
  None,
  grind arith,
  search rules,
  λ point. omega (arith, point.3),
)

two_places : decimal_text (record { negative = false; digits = 5; places = 2 }) ≡ codes "0.05"
unfolding digits
two_places = refl

-- what a text with a quote and an escape is written as, in quotes; and with each quote doubled
by_backslash : quoted_text 39 92 (codes "a'\\") ≡ codes "'a\\'\\\\'"
by_backslash = refl

doubled : quoted_text 39 39 (codes "it's") ≡ codes "'it''s'"
doubled = refl

-- what texts between quotes represent: the last ends with an escape
escaped : unquoted 92 (codes "a\\'\\\\b\\n") ≡ codes "a'\\bn"
escaped = refl

halved : unquoted 39 (codes "it''s") ≡ codes "it's"
halved = refl

last_escape : unquoted 92 (codes "a\\") ≡ codes "a\\"
last_escape = refl

-- a text is written in quotes, taken and read back
there_and_back : unquoted 34 (flat_map (quoted_code 34 34) (codes "a\"b")) ≡ codes "a\"b"
there_and_back = written_unquoted 34 34 (codes "a\"b")
