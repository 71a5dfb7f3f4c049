use Rattle.example_resp.proofs.session.Session.respond.Goals as goal

pub returns-in_ok-plan_length-in-Length-clause-answers
    : goal.returns-in_ok-plan_length-in-Length-clause-answers
returns-in_ok-plan_length-in-Length-clause-answers c =
    rw (c.in-Length.is, ← c.in_ok-whole_line-in-Length.ensures.ok)
    c.in_ok-plan_length-in-Length.ensures.answers
