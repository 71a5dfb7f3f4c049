use Rattle.std.proofs.Common.{◌≡◌, ◌≤◌, length, take, vec_capacity, vec_len}
use Rattle.ascii_run.specs.Run.{NeverShrinks, RunOf}
use Rattle.ascii_run.proofs.commands.run.Given as goal

-- the commands so far have run, and there is room for the other replies
abbrev pub invariant-loop-cmd : goal.invariant-loop-cmd
invariant-loop-cmd g l =
    let old = g.B.AsciiBuf.state l.fn.buf in
    let new = g.B.AsciiBuf.state l.buf in
    let done = take l.cmd-index l.cmds in record {
      run : RunOf g.B.AsciiBuf.sure old done l.replies.items new;
      within : NeverShrinks l.cmds → RunOf old.capacity old done l.replies.items new;
      capacity : NeverShrinks l.cmds → old.capacity ≤ new.capacity;
      len : vec_len l.replies ≡ l.cmd-index;
      room : length l.cmds ≤ vec_capacity l.replies;
    }
