use Rattle.std.proofs.Common.{◌≡◌, rules, true, false, [], ◌++◌, ap, ◌∙◌, sym, if◌then◌else◌}
use Rattle.std.specs.Prelude.{codes, decimal}
use Rattle.ascii_devices.proofs.BufferedLemmas.{AppendsBytes-is, AppendsBytes-nil}
use Rattle.ascii_devices.proofs.BufferedLemmas.{AppendsBytes-trans}
use Rattle.ascii_filter.specs.Checked.{shown_count}
use Rattle.ascii_filter.proofs.check.put_count.Goals as goal

pub returns-in_default : goal.returns-in_default
returns-in_default g c = AppendsBytes-is
    (ap (shown_count c.args.check c.args.label.now c.args.answer.found) (sym c.in_default.is))
    (AppendsBytes-nil _)

pub returns-then-check : goal.returns-then-check
returns-then-check g c =
    let text = c.args.label.now ++ (decimal c.args.answer.found ++ codes "\n") in
    AppendsBytes-is
    (sym (ap (shown_count c.args.check c.args.label.now c.args.answer.found) c.in-Ok.is
    ∙ ap (λ b. if b then [] else if c.args.check.is_count then text else []) c.if-check.true))
    (AppendsBytes-nil _)

pub returns-then-not-check : goal.returns-then-not-check
returns-then-not-check g c =
    let text = c.args.label.now ++ (decimal c.args.answer.found ++ codes "\n") in
    let off : c.args.check.is_count ≡ false = search rules in
    AppendsBytes-is
    (sym (ap (shown_count c.args.check c.args.label.now c.args.answer.found) c.in-Ok.is
    ∙ (λ k. if c.if-check.false k then [] else if off k then text else [])))
    (AppendsBytes-nil _)

pub returns : goal.returns
returns g c =
    let number = decimal c.args.answer.found in
    let text = c.args.label.now ++ (number ++ codes "\n") in
    let on : c.args.check.is_count ≡ true = search rules in
    let is = c.as_bytes.ensures.value ∙ c.format.ensures.text in
    AppendsBytes-is
    (sym (ap (shown_count c.args.check c.args.label.now c.args.answer.found) c.in-Ok.is
    ∙ (λ k. if c.if-check.false k then [] else if on k then text else [])))
    (AppendsBytes-trans c.args.label.now (number ++ codes "\n") c.put.ensures
    (AppendsBytes-trans number (codes "\n") (AppendsBytes-is is c.put-2.ensures) c.put-3.ensures))
