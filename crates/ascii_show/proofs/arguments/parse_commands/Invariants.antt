use Rattle.std.proofs.Common.{take}
use Rattle.std.specs.List.{AllZip}
use Rattle.ascii_show.specs.Call.{words_of}
use Rattle.ascii_show.specs.Words.{IsWordOf}
use Rattle.ascii_show.proofs.arguments.parse_commands.Given as goal

-- the commands of the arguments so far
abbrev pub invariant-loop-i : goal.invariant-loop-i
invariant-loop-i g l = AllZip IsWordOf (take l.i (words_of l.args)) l.cmds.items
