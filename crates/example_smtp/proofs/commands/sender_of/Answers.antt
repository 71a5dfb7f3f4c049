use Rattle.std.proofs.Common.{◌<◌, ◌≤◌, arith}
use Rattle.ascii.specs.View.{text_of}
use Rattle.example_smtp.proofs.ArgumentLemmas.{no_large_sender, no_sender, sender_before}
use Rattle.example_smtp.specs.Commands.{most_bytes}
use Rattle.example_smtp.proofs.commands.sender_of.Goals as goal

pub returns-in_err-path : goal.returns-in_err-path
returns-in_err-path c = rw c.from_residual.ensures
    (no_sender (text_of c.args.argument) c.in_default.ensures c.in_err-path.ensures)

pub returns-then-size : goal.returns-then-size
returns-then-size c =
    let large : most_bytes < c.in_ok-path.size = grind arith in
    no_large_sender (text_of c.args.argument) c.in_default.ensures (text_of c.in_ok-path.path)
    c.in_ok-path.size c.in_ok-path.ensures large

pub returns : goal.returns
returns c =
    let fits : c.in_ok-path.size ≤ most_bytes = grind arith in
    sender_before (text_of c.args.argument) c.in_default.ensures (text_of c.in_ok-path.path)
    c.in_ok-path.size c.sender_in-2.result c.in_ok-path.ensures fits c.sender_in-2.ensures
