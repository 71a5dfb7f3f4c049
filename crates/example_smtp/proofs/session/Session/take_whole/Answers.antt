use Rattle.std.proofs.Common.{◌≢◌, ℕ, List, Some, arith, refl}
use Rattle.ascii.specs.View.{text_of}
use Rattle.example_smtp.specs.Mail.{State}
use Rattle.example_smtp.specs.Session.{AnswersAt, AnswersCommand}
use Rattle.example_smtp.specs.declared.commands.Reply.{Reply}
use Rattle.example_smtp.specs.declared.session.Stage.{Stage}
use Rattle.example_smtp.specs.declared.session.Stage.TheVariants.{Greeting, Lines, Ready}
use Rattle.example_smtp.specs.declared.session.Stage.TheVariants.{Recipients, Sender}
use Rattle.example_smtp.proofs.session.Session.take_whole.Goals as goal

-- outside a message, a line is to say a command
command_at : (old new : State) (line : List ℕ) (said : Reply) (stage : Stage) → stage ≢ Lines
    → AnswersCommand old line said new → AnswersAt stage old line (Some said) new
command_at old new line said Lines apart answers = absurd (apart refl)
command_at old new line said Greeting apart answers = (said, refl, answers)
command_at old new line said Ready apart answers = (said, refl, answers)
command_at old new line said Sender apart answers = (said, refl, answers)
command_at old new line said Recipients apart answers = (said, refl, answers)

pub returns-in_default : goal.returns-in_default
returns-in_default g c =
    let apart : c.args.self.now.stage ≢ Lines = grind arith in
    command_at c.args.self.now c.take_command.new.self (text_of c.args.line) c.take_command.result
    c.args.self.now.stage apart c.take_command.ensures
