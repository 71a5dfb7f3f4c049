use Rattle.std.proofs.Common.{refl}
use Rattle.example_smtp.proofs.session.SessionHandler.refuse.Goals as goal

pub returns-clause-refuses : goal.returns-clause-refuses
returns-clause-refuses g c = (
  _,
  c.say.ensures.says,
  (_, _, _, c.reject-reply.ensures, c.count_error-reply.ensures, refl, c.say.ensures.next),
)
