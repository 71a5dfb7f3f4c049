use Rattle.std.proofs.Common.{◌≡◌, ◌++◌, take}
use Rattle.std.specs.List.{flat_map}
use Rattle.example_smtp.specs.Mail.{delivered_to, string_texts}
use Rattle.example_smtp.proofs.message.append_recipients.Given as goal

-- the lines for the recipients so far
abbrev pub invariant-loop-recipient : goal.invariant-loop-recipient
invariant-loop-recipient l = l.envelope.text ≡ l.fn.envelope.text
    ++ flat_map delivered_to (string_texts (take l.recipient-index l.recipients))
