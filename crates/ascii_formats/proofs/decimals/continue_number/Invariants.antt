use Rattle.std.proofs.Common.{◌≡◌, ◌^◌, ◌<◌, take}
use Rattle.std.specs.Str.Parse.{AllDigits, digits_value_after}
use Rattle.ascii.specs.View.{text_of}
use Rattle.ascii_formats.proofs.decimals.continue_number.Given as goal

-- the number so far is that of the digits so far
abbrev pub invariant-loop-at : goal.invariant-loop-at
invariant-loop-at l =
    let codes = take l.at (text_of l.digits) in
    AllDigits 10 codes × (l.longer ≡ digits_value_after 10 l.number codes) × (l.longer < 2 ^ 64)
