use Rattle.std.proofs.Common.{rules, ◌≡◌, ◌≤◌, ◌<◌, get_or, length}
use Rattle.std.specs.Char.{digit_value}
use Rattle.std.specs.Int.{from_bool}
use Rattle.ascii_formats.proofs.NumbersLemmas.{more_digits, more_value}
use Rattle.ascii.specs.View.{text_of}
use Rattle.ascii_formats.proofs.numbers.leading_number.Goals as goal

pub returns-in_default-with_digit : goal.returns-in_default-with_digit
returns-in_default-with_digit g c =
    let text = text_of c.args.view in
    let start = from_bool c.args.minus in
    let at = c.loop-position.position in
    let order : start ≤ at = search rules in
    let inside : at < length text = search rules in
    let digit : c.in-Some.digit ≡ digit_value (get_or text at 0) = search rules in
    let value = more_value c.args.radix text start at _ _ order inside c.loop-position.invariant.2
    digit in
    search rules

pub loop-position-preserved : goal.loop-position-preserved
loop-position-preserved g c =
    let text = text_of c.args.view in
    let start = from_bool c.args.minus in
    let at = c.loop-position.position in
    let order : start ≤ at = search rules in
    let inside : at < length text = search rules in
    let digit : c.in-Some.digit ≡ digit_value (get_or text at 0) = search rules in
    let value = more_value c.args.radix text start at _ _ order inside c.loop-position.invariant.2
    digit in
    let digits = more_digits c.args.radix text start at order inside c.loop-position.invariant.0.0
    (search rules) in
    search rules
