use Rattle.std.proofs.Common.{List, ap, map, ℕ, refl, ◌∙◌}
use Rattle.ascii.specs.Pieces.{Remaining}
use Rattle.std.proofs.lemmas.Iterator.Consumers.{YieldsList-at}
use Rattle.ascii.specs.Spans.{WithStart, piece_in}
use Rattle.ascii.specs.Steps.{StepsSpan, at_front}
use Rattle.ascii.specs.TheCuts.{at_code}
use Rattle.ascii.proofs.ExtendLemmas.{if_ok}
use Rattle.ascii.proofs.StepsLemmas.{road_from_first_and}
use Rattle.tests_callers.proofs.TakenLemmas.{taken}
use Rattle.tests_callers.proofs.prefixes.first_piece_spans.Goals as goal

pub returns : goal.returns
returns c = if_ok c.collect.result c.collect.ensures.ran (λ given ran. (
  c.split_spans.result.items,
  c.split_spans.ensures.iterates.spans,
  ap (map piece_in) ran.2.0 ∙ taken c.args.n c.take.result ran.0
      (YieldsList-at c.take.ensures.source
      (road_from_first_and piece_in (λ (split : Remaining ℕ (WithStart (List ℕ))). split.items)
      (StepsSpan at_front at_code) c.split_spans.result.items refl)) c.take.ensures.count ran.1,
))
