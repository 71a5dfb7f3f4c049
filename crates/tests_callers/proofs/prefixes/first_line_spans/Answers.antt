use Rattle.std.proofs.Common.{ap, map, refl, ◌∙◌}
use Rattle.std.proofs.lemmas.Iterator.Consumers.{YieldsList-at}
use Rattle.ascii.specs.Spans.{line_in}
use Rattle.ascii.specs.Steps.{DropsFirstSpan}
use Rattle.ascii.proofs.ExtendLemmas.{if_ok}
use Rattle.ascii.proofs.StepsLemmas.{road_from_first_and}
use Rattle.tests_callers.proofs.TakenLemmas.{taken}
use Rattle.tests_callers.proofs.prefixes.first_line_spans.Goals as goal

pub returns : goal.returns
returns c = if_ok c.collect.result c.collect.ensures.ran (λ given ran. (
  c.line_spans.result,
  c.line_spans.ensures.iterates.spans,
  ap (map line_in) ran.2.0 ∙ taken c.args.n c.take.result ran.0
      (YieldsList-at c.take.ensures.source
      (road_from_first_and line_in (λ lines. lines) DropsFirstSpan c.line_spans.result refl))
      c.take.ensures.count ran.1,
))
