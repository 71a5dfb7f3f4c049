use Rattle.std.proofs.Common.{◌∙◌}
use Rattle.std.proofs.lemmas.List.Folds.{flat_map-map}
use Rattle.ascii.proofs.CallerLemmas.{collects_lines}
use Rattle.ascii.proofs.ExtendLemmas.{if_ok}
use Rattle.tests_callers.proofs.iterators.without_line_endings.Goals as goal

pub returns : goal.returns
returns c = if_ok c.collect_strs.result c.collect_strs.ensures.text (λ string given. (
  c.lines.result,
  c.lines.ensures.iterates.lines,
  collects_lines c.lines.result string.text given
      ∙ flat_map-map (λ body. body) (λ line. line.body) c.lines.result,
))
