use Rattle.std.proofs.Common.{arith}
use Rattle.example_resp.proofs.session.Session.plan.Goals as goal

pub returns-in-Err-clause-answers : goal.returns-in-Err-clause-answers
returns-in-Err-clause-answers c = grind arith
