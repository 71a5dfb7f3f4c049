use Rattle.std.proofs.Common.{refl}
use Rattle.std.proofs.lemmas.Bool.{false≢true}
use Rattle.ascii.specs.View.{text_of}
use Rattle.example_smtp.proofs.PathLemmas.{no_colon, no_route}
use Rattle.example_smtp.proofs.paths.address_of.Goals as goal
use Rattle.example_smtp.proofs.paths.address_of.Goals.{else-are_between-via-else-are_between}
use Rattle.example_smtp.proofs.paths.address_of.Goals.{else-are_between-via-then-are_between+else-is_mailbox}

pub returns-in_err-route : goal.returns-in_err-route
returns-in_err-route c = rw c.from_residual-in_err-route.ensures
    (λ address. no_colon (text_of c.args.path) (text_of c.in_ok-inner.inner) address
    (rw (c.literal.ensures, c.literal-2.ensures) at c.in_ok-inner.ensures)
    ((rw c.literal-3.ensures at c.if-not-starts_with.ensures).0 refl) c.in_err-route.ensures)

pub returns-else-are_between : goal.returns-else-are_between
returns-else-are_between c = λ address. no_route (text_of c.args.path)
    (text_of c.in_ok-inner.inner) (text_of c.in_ok-route.route)
    (text_of c.in_ok-route.address) address
    (rw (c.literal.ensures, c.literal-2.ensures) at c.in_ok-inner.ensures)
    ((rw c.literal-3.ensures at c.if-not-starts_with.ensures).0 refl) c.in_ok-route.ensures
    (λ is. elim c.else-are_between.branch [
      | else-are_between-via-then-are_between+else-is_mailbox w ↦
          false≢true (w.if-is_mailbox.ensures.1 is.1)
      | else-are_between-via-else-are_between w ↦ false≢true (w.if-are_between.ensures.1 is.0)
    ])
