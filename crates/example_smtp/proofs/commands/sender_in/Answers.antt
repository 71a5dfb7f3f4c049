use Rattle.std.proofs.Common.{subst}
use Rattle.std.proofs.lemmas.Bool.{false≢true}
use Rattle.ascii.specs.View.{text_of}
use Rattle.example_smtp.proofs.PathLemmas.{one_address}
use Rattle.example_smtp.specs.Paths.{IsSender}
use Rattle.example_smtp.proofs.commands.sender_in.Goals as goal

pub returns-in_err-address : goal.returns-in_err-address
returns-in_err-address c =
    rw c.from_residual.ensures (λ address is. c.in_err-address.ensures address is.0)

pub returns-else-is_sender : goal.returns-else-is_sender
returns-else-is_sender c = λ address is. false≢true (c.if-is_sender.ensures.1 (subst IsSender
    (one_address address (text_of c.in_ok-address.address) (text_of c.args.path) is.0
    c.in_ok-address.ensures) is.1))
