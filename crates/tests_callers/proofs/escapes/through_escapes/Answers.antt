use Rattle.std.proofs.Common.{sym, ◌∙◌}
use Rattle.ascii.proofs.CallerLemmas.{collects_chars}
use Rattle.ascii_formats.proofs.UnescapeLemmas.{escaped_comes_back}
use Rattle.tests_callers.proofs.escapes.through_escapes.Goals as goal

pub returns : goal.returns
returns c =
    let escaped = collects_chars _ _ c.in-Ok.ensures.text in
    escaped_comes_back (λ string. string.text) _ _ _ c.args.view.ascii
    (c.as_ascii_str.ensures ∙ escaped ∙ c.new.ensures) c.unescape.ensures
