use Rattle.std.proofs.Common.{refl}
use Rattle.example_smtp.proofs.session.SessionHandler.answer.Goals as goal

pub returns-clause-answers : goal.returns-clause-answers
returns-clause-answers g c = (
  _,
  c.say.ensures.says,
  (_, _, _, c.take-reply.ensures, c.count_error-reply.ensures, refl, c.say.ensures.next),
)
