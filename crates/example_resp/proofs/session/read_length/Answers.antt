use Rattle.std.proofs.Common.{arith}
use Rattle.ascii.specs.View.{text_of}
use Rattle.example_resp.proofs.LengthLemmas.{at_fault}
use Rattle.example_resp.proofs.session.read_length.Goals as goal

pub returns-in-Err : goal.returns-in-Err
returns-in-Err c = (
  text_of c.in-Some.digits,
  c.in-Some.ensures,
  at_fault c.args.most _ (text_of c.in-Some.digits) c.in-Err.field-0 c.in-Err.ensures
      (omega arith),
)
