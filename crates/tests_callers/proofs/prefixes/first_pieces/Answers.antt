use Rattle.std.proofs.Common.{List, ap, map, ℕ, refl, ◌∙◌}
use Rattle.std.proofs.lemmas.Iterator.Consumers.{YieldsList-at}
use Rattle.ascii.specs.Pieces.{Remaining}
use Rattle.ascii.specs.Steps.{StepsText, at_front}
use Rattle.ascii.specs.TheCuts.{at_code}
use Rattle.ascii.specs.View.{text_of}
use Rattle.ascii.proofs.ExtendLemmas.{if_ok}
use Rattle.ascii.proofs.StepsLemmas.{road_from_first_and}
use Rattle.tests_callers.proofs.TakenLemmas.{taken}
use Rattle.tests_callers.proofs.prefixes.first_pieces.Goals as goal

pub returns : goal.returns
returns c = if_ok c.collect.result c.collect.ensures.ran (λ given ran. (
  c.split.result.items,
  c.split.ensures.iterates.pieces,
  ap (map text_of) ran.2.0 ∙ taken c.args.n c.take.result ran.0
      (YieldsList-at c.take.ensures.source
      (road_from_first_and text_of (λ (split : Remaining ℕ (List ℕ)). split.items) (StepsText at_front at_code)
      c.split.result.items refl)) c.take.ensures.count ran.1,
))
