use Rattle.std.proofs.Common.{map}
use Rattle.ascii_run.specs.Modes.Json.{AreEscapes}
use Rattle.ascii_run.proofs.modes.json_string.Escapes.new.Given as goal

-- the escapes of the codes before this one
abbrev pub invariant-loop-code : goal.invariant-loop-code
invariant-loop-code g l = AreEscapes l.code (map (λ escape. escape.text) l.strings.items)
