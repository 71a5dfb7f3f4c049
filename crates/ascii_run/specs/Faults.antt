-- What the error of a run prints.
use Rattle.std.specs.Prelude.{ℕ, List, ◌++◌, codes, decimal}
use Rattle.ascii.specs.View.{error_text}
use Rattle.ascii_run.specs.declared.faults.EngineFault.{EngineFault}
use Rattle.ascii_run.specs.declared.faults.EngineFault.TheVariants.{NotAscii, Position, Memory}
use Rattle.ascii_run.specs.declared.faults.EngineFault.TheVariants.{Read, Write}
use Rattle.ascii_run.specs.declared.faults.BoundedFault.{BoundedFault}
use Rattle.ascii_run.specs.declared.faults.BoundedFault.TheVariants as bounded

-- the line that says why a run stopped; bytes and commands are counted from 0
abbrev pub fault_text : EngineFault → List ℕ
fault_text (NotAscii n) = error_text n
fault_text (Position k) = codes "bad position in command " ++ decimal k
fault_text Memory = codes "no memory"
fault_text Read = codes "read failed"
fault_text Write = codes "write failed"

-- the line that says why a run in bounded memory stopped; bytes are counted from 0
abbrev pub bounded_fault_text : BoundedFault → List ℕ
bounded_fault_text (bounded.NotAscii n) = error_text n
bounded_fault_text bounded.TooLong = codes "the input is too long"
bounded_fault_text bounded.Memory = codes "no memory"
bounded_fault_text bounded.Read = codes "read failed"
bounded_fault_text bounded.Write = codes "write failed"
