-- The status that the program ends with, and the line that it prints.
use Rattle.std.specs.Prelude.{ℕ, List, ◌+◌, ◌++◌, codes, decimal, min, ◌^◌, ◌-◌, Result, Ok, Err}
use Rattle.ascii_run.specs.declared.faults.EngineFault.TheVariants.{NotAscii, Position}
use Rattle.ascii_run.specs.Faults.{fault_text}
use Rattle.ascii_show.specs.Modes.{usage_line}
use Rattle.ascii_show.specs.declared.failure.Failure.{Failure}
use Rattle.ascii_show.specs.declared.failure.Failure.TheVariants.{Usage, BadWord, Engine}

-- the status of a result: 0 for `Ok`, 1 for input that is not ASCII, 2 for a fault in the words, 3
-- for memory and devices
abbrev pub status_of : Result (Unit {0}) Failure → ℕ
status_of (Ok _) = 0
status_of (Err (Engine (NotAscii n))) = 1
status_of (Err Usage) = 2
status_of (Err (BadWord n)) = 2
status_of (Err (Engine (Position k))) = 2
status_of (Err (Engine other)) = 3

-- the line that says why the program failed; words are counted from 1, and bytes from 0
abbrev pub line_of : Failure → List ℕ
line_of Usage = usage_line
line_of (BadWord n) = codes "bad word " ++ decimal n
line_of (Engine (Position k)) = codes "bad position in word " ++ decimal (min (k + 1) (2 ^ 64 - 1))
line_of (Engine fault) = fault_text fault
