-- How a server greets a client.
use Rattle.std.specs.Fmt.{decimal}
use Rattle.std.specs.Prelude.{ℕ, List, ◌++◌, codes}

-- the greeting of a server that takes lines of at most `longest` bytes
abbrev pub greeting : ℕ → List ℕ
greeting longest = codes "READY for lines of " ++ (decimal longest ++ codes " bytes")
