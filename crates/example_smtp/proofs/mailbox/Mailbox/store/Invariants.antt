use Rattle.std.proofs.Common.{[]}
use Rattle.example_smtp.specs.Folder.{Stores}
use Rattle.example_smtp.proofs.mailbox.Mailbox.store.Given as goal

-- no mail was stored yet
abbrev pub invariant-loop : goal.invariant-loop
invariant-loop g l = Stores l.fn.self [] l.self
