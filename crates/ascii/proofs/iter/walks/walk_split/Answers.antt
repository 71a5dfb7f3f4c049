use Rattle.std.proofs.Common.{refl}
use Rattle.ascii.specs.View.{text_of}
use Rattle.ascii.proofs.EndsLemmas.{ListAnswers-walked}
use Rattle.ascii.proofs.iter.walks.walk_split.Goals as goal

pub returns-clause-ends : goal.returns-clause-ends
returns-clause-ends g c = ListAnswers-walked _ _ text_of (λ split. split.items)
    (λ s r t is. is.0) (λ s r t is. is.0) _ _ (λ answers. answers.items) c.walk.result _
    (λ pieces. pieces) _
    c.split.ensures.iterates.pieces refl c.walk.ensures.answers
