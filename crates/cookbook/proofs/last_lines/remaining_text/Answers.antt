use Rattle.cookbook.proofs.LastLinesLemmas.{rest_or_nothing}
use Rattle.cookbook.proofs.last_lines.remaining_text.Goals as goal

pub returns : goal.returns
returns c = rest_or_nothing c.args.lines.now c.remainder.result _ c.remainder.ensures
    c.unwrap_or_default.ensures
