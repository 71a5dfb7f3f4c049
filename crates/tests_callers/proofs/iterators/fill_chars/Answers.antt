use Rattle.std.proofs.Common.{◌+◌, ◌≤◌, length, subst, sym}
use Rattle.ascii.proofs.CallerLemmas.{extends_fitting_chars}
use Rattle.tests_callers.proofs.iterators.fill_chars.Goals as goal

pub returns : goal.returns
returns c =
    let old = c.args.string.now in
    extends_fitting_chars c.chars.result old c.extend_chars.new.self c.extend_chars.result
    c.extend_chars.ensures.extends
    (subst (λ t. length old.text + length t ≤ old.capacity) (sym c.chars.ensures) c.requires)
