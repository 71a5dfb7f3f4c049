use Rattle.ascii.specs.View.{text_of}
use Rattle.example_smtp.proofs.ArgumentLemmas.{no_name, no_size, no_space}
use Rattle.example_smtp.proofs.commands.sized.Goals as goal

pub returns-in_err-path : goal.returns-in_err-path
returns-in_err-path c = rw c.from_residual.ensures
    (λ path size. no_space (text_of c.args.argument) path size c.in_err-path.ensures)

pub returns-in_err-digits : goal.returns-in_err-digits
returns-in_err-digits c = rw c.from_residual-in_err-digits.ensures
    (λ path size. no_name (text_of c.args.argument) (text_of c.in_ok-path.path)
    (text_of c.in_ok-path.word) path size c.in_ok-path.ensures
    (rw c.literal.ensures at c.in_err-digits.ensures))

pub returns-in-Err : goal.returns-in-Err
returns-in-Err c = λ path size. no_size (text_of c.args.argument) (text_of c.in_ok-path.path)
    (text_of c.in_ok-path.word) (text_of c.in_ok-digits.digits) path size c.in-Err.field-0
    c.in_ok-path.ensures (rw c.literal.ensures at c.in_ok-digits.ensures) c.in-Err.ensures
