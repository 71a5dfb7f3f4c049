use Rattle.std.proofs.Common.{rules, ◌≡◌, ◌≢◌, ◌⊎◌, ◌+◌, ◌^◌, ◌<◌, [], ◌++◌, ap, append-nil, inl}
use Rattle.std.proofs.Common.{arith, length, subst, subst₂, ◌∙◌}
use Rattle.std.specs.Int.{from_bool}
use Rattle.std.specs.Str.Parse.{digits_value, starts_with_minus}
use Rattle.ascii_formats.specs.Decimals.{IsDecimalFault, sign_text}
use Rattle.ascii_formats.specs.declared.numbers.NumberError.TheVariants.{NotDigit}
use Rattle.ascii.specs.View.{text_of}
use Rattle.ascii_formats.proofs.DecimalsLemmas.{fails_with, fraction_fault, point_fault, signed}
use Rattle.ascii_formats.proofs.DecimalsLemmas.{whole_fault, writes_fraction, writes_whole}
use Rattle.ascii_formats.proofs.views.AsciiStrAsciiStrExt.to_decimal.Goals as goal
use Rattle.ascii_formats.proofs.views.AsciiStrAsciiStrExt.to_decimal.Goals.{then-is_empty-2-via-then-is_empty-2}
use Rattle.ascii_formats.proofs.views.AsciiStrAsciiStrExt.to_decimal.Goals.{then-is_empty-2-via-else-is_empty-2+then-is_empty-3}

pub returns-in_err-digits : goal.returns-in_err-digits
returns-in_err-digits c =
    let text = text_of c.args.self in
    let digits = text_of c.split_sign-negative.result.1 in
    let sign = c.split_sign-negative.ensures in
    let start = c.from-start.ensures ∙ ap from_bool sign.minus in
    let joined = ap (λ l. sign_text (starts_with_minus text) ++ l) (append-nil digits ∙ sign.rest)
    ∙ signed text in
    grind (arith, fails_with, whole_fault)

pub returns-in_default : goal.returns-in_default
returns-in_default c =
    let text = text_of c.args.self in
    let digits = text_of c.split_sign-negative.result.1 in
    let sign = c.split_sign-negative.ensures in
    let joined = ap (λ l. sign_text (starts_with_minus text) ++ l) sign.rest ∙ signed text in
    grind (arith, writes_whole)

pub returns-in_err-number : goal.returns-in_err-number
returns-in_err-number c =
    let text = text_of c.args.self in
    let whole = text_of c.in-Some.whole in
    let sign = c.split_sign-negative.ensures in
    let start = c.from-start.ensures ∙ ap from_bool sign.minus in
    let joined = ap (λ l. sign_text (starts_with_minus text) ++ l)
    (c.in-Some.ensures.joined ∙ sign.rest) ∙ signed text in
    grind (arith, fails_with, whole_fault)

pub returns-then-is_empty-2 : goal.returns-then-is_empty-2
returns-then-is_empty-2 c =
    let text = text_of c.args.self in
    let whole = text_of c.in-Some.whole in
    let fraction = text_of c.in-Some.fraction in
    let sign = c.split_sign-negative.ensures in
    let start = c.from-start.ensures ∙ ap from_bool sign.minus in
    let joined = ap (λ l. sign_text (starts_with_minus text) ++ l)
    (c.in-Some.ensures.joined ∙ sign.rest) ∙ signed text in
    let none : (whole ≡ []) ⊎ (fraction ≡ []) = elim c.then-is_empty-2.branch [
      | then-is_empty-2-via-then-is_empty-2 w ↦ inl (c.is_empty-2.ensures.0 w.if-is_empty-2.true)
      | then-is_empty-2-via-else-is_empty-2+then-is_empty-3 w ↦ grind arith
    ] in
    let fits : digits_value 10 whole < 2 ^ 64 = search rules in
    let place : from_bool (starts_with_minus text) + length whole ≡ c.from-start.result
    + c.len.result = omega (arith, start, c.len.ensures) in
    subst (λ p. IsDecimalFault text (NotDigit p)) place
    (point_fault text whole fraction joined c.in_ok-number.ensures.0 fits none)

pub returns-in_err-digits-2 : goal.returns-in_err-digits-2
returns-in_err-digits-2 c =
    let text = text_of c.args.self in
    let whole = text_of c.in-Some.whole in
    let fraction = text_of c.in-Some.fraction in
    let kept = text_of c.without_zeros-kept.result in
    let error = c.in_err-digits-2.field-0.0 in
    let sign = c.split_sign-negative.ensures in
    let start = c.from-start.ensures ∙ ap from_bool sign.minus in
    let joined = ap (λ l. sign_text (starts_with_minus text) ++ l)
    (c.in-Some.ensures.joined ∙ sign.rest) ∙ signed text in
    let some : whole ≢ [] = search rules in
    let place : c.from-start.result + c.len.result + 1
    ≡ from_bool (starts_with_minus text) + length whole + 1 = grind arith in
    fails_with _ _ _ _ c.from_residual-in_err-digits-2.ensures.1
    (fraction_fault text whole fraction kept _ joined c.in_ok-number.ensures.0 some
    c.without_zeros-kept.ensures (grind arith))

pub returns : goal.returns
returns c =
    let text = text_of c.args.self in
    let whole = text_of c.in-Some.whole in
    let fraction = text_of c.in-Some.fraction in
    let kept = text_of c.without_zeros-kept.result in
    let sign = c.split_sign-negative.ensures in
    let joined = ap (λ l. sign_text (starts_with_minus text) ++ l)
    (c.in-Some.ensures.joined ∙ sign.rest) ∙ signed text in
    grind (arith, subst₂, writes_fraction)
