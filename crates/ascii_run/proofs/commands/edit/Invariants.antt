use Rattle.std.proofs.Common.{◌≡◌, Ok, take}
use Rattle.ascii_run.specs.Edit.{edits}
use Rattle.ascii_run.proofs.commands.edit.Given as goal

-- the commands so far have run and none was rejected
abbrev pub invariant-loop-k : goal.invariant-loop-k
invariant-loop-k g l = edits 0 l.fn.buf.text (take l.k l.cmds) ≡ Ok l.buf.text
