use Rattle.std.proofs.Common.{subst}
use Rattle.std.proofs.lemmas.Bool.{false≢true}
use Rattle.ascii.specs.View.{text_of}
use Rattle.example_smtp.proofs.PathLemmas.{one_address}
use Rattle.example_smtp.specs.Commands.{IsArgument}
use Rattle.example_smtp.specs.Paths.{IsRecipient}
use Rattle.example_smtp.proofs.commands.command_of.Goals as goal
use Rattle.example_smtp.proofs.commands.command_of.Goals.{in_default-address_of-via-in-Some+else-is_recipient}
use Rattle.example_smtp.proofs.commands.command_of.Goals.{in_default-address_of-via-in_default-address_of}

pub returns-in_err-address-in-Mail : goal.returns-in_err-address-in-Mail
returns-in_err-address-in-Mail c = rw c.from_residual-in_err-address-in-Mail.ensures
    (λ is. let (address, says) =
    subst (λ verb. IsArgument verb (text_of c.args.argument)) c.in-Mail.is is in
    c.in_err-address-in-Mail.ensures address says)

pub returns-in_default-address_of : goal.returns-in_default-address_of
returns-in_default-address_of c = λ is.
    let (address, path, to) =
    subst (λ verb. IsArgument verb (text_of c.args.argument)) c.in-Rcpt.is is in
    elim c.in_default-address_of.branch [
      | in_default-address_of-via-in-Some+else-is_recipient w ↦
          false≢true (w.if-is_recipient.ensures.1 (subst IsRecipient
          (one_address address (text_of w.in-Some.address) (text_of c.args.argument) path
          w.in-Some.ensures) to))
      | in_default-address_of-via-in_default-address_of w ↦
          w.in_default-address_of.ensures address path
    ]
