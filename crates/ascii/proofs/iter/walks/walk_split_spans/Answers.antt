use Rattle.std.proofs.Common.{refl}
use Rattle.ascii.specs.Spans.{piece_in}
use Rattle.ascii.proofs.EndsLemmas.{ListAnswers-walked}
use Rattle.ascii.proofs.iter.walks.walk_split_spans.Goals as goal

pub returns-clause-ends : goal.returns-clause-ends
returns-clause-ends g c = ListAnswers-walked _ _ piece_in (λ split. split.items)
    (λ s r t is. is.0) (λ s r t is. is.0) _ _ (λ answers. answers.items) c.walk.result _
    (λ spans. spans) _
    c.split_spans.ensures.iterates.spans refl c.walk.ensures.answers
