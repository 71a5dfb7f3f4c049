use Rattle.std.proofs.Common.{Err, Ok, arith, inr, refl}
use Rattle.ascii.specs.View.{text_of}
use Rattle.example_smtp.specs.Session.{IsStranger}
use Rattle.example_smtp.proofs.session.Session.take_command.Goals as goal

pub returns-in-Ok : goal.returns-in-Ok
returns-in-Ok g c =
    let not : ¬ (IsStranger c.args.self.now (text_of c.args.line)) = grind arith in
    inr (not, (Ok c.in-Ok.command, c.in-Ok.ensures, c.follow.ensures))

pub returns-in-Err : goal.returns-in-Err
returns-in-Err g c =
    let not : ¬ (IsStranger c.args.self.now (text_of c.args.line)) = grind arith in
    inr (not, (Err c.in-Err.fault, c.in-Err.ensures, (refl, refl)))
