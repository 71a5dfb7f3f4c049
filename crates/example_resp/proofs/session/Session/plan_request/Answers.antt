use Rattle.std.proofs.Common.{codes, inl, inr, sym, ◌∙◌}
use Rattle.std.proofs.lemmas.Bool.{false≢true}
use Rattle.std.proofs.lemmas.Result.{IfOk-weaker}
use Rattle.ascii.specs.View.{text_of}
use Rattle.example_resp.specs.Requests.{IsLength, most_words}
use Rattle.example_resp.specs.Store.{byte_lists}
use Rattle.example_resp.specs.declared.session.Length.TheVariants.{Absent}
use Rattle.example_resp.proofs.session.Session.plan_request.Goals as goal

pub returns-in-Ok-clause-answers : goal.returns-in-Ok-clause-answers
returns-in-Ok-clause-answers c =
    let absent : IsLength (codes "*") most_words (text_of c.args.line) Absent =
    rw c.literal.ensures at c.in-Absent.ensures in
    IfOk-weaker c.carry_out.result _ _
    (λ plan carried. record {
      none = λ is. absurd (false≢true (sym c.if-eq_bytes.false ∙ c.eq_bytes.ensures.1 is));
      other = λ _. (
        Absent,
        absent,
        inl (byte_lists c.in-Ok.words.items, c.in-Ok.ensures, carried),
      );
    })
    c.carry_out.ensures.answers

pub returns-in-Err : goal.returns-in-Err
returns-in-Err c =
    let absent : IsLength (codes "*") most_words (text_of c.args.line) Absent =
    rw c.literal.ensures at c.in-Absent.ensures in
    record {
      answers = record {
        none = λ is. absurd (false≢true (sym c.if-eq_bytes.false ∙ c.eq_bytes.ensures.1 is));
        other = λ _. (
          Absent,
          absent,
          inr (c.in-Err.rejection, c.in-Err.ensures, c.reject-in-Err.ensures.answers),
        );
      };
      request = c.reject-in-Err.ensures.request;
    }
