-- What the program may return for its words and its input.
use Rattle.std.specs.Prelude.{◌≡◌, ⊤, ℕ, List, ◌++◌, IfSome, None, Some, length}
use Rattle.std.specs.Str.{IsAscii}
use Rattle.std.specs.Io.KnownBytes.{Appends, Keeps}
use Rattle.std.specs.declared.option.Option.{Option}
use Rattle.std.specs.declared.result.Result.{Result}
use Rattle.std.specs.declared.result.Result.TheVariants.{Ok, Err}
use Rattle.ascii.specs.Bytes.{FirstOther}
use Rattle.ascii_run.specs.Modes.{IsOutput, fault_of}
use Rattle.ascii_run.specs.declared.faults.EngineFault.TheVariants.{NotAscii, Position, Memory}
use Rattle.ascii_run.specs.declared.faults.EngineFault.TheVariants.{Read, Write}
use Rattle.ascii_run.specs.declared.modes.Mode.{Mode}
use Rattle.ascii_show.specs.Call.{Requests, HasBadWord, IsCall}
use Rattle.ascii_show.specs.declared.failure.Failure.{Failure}
use Rattle.ascii_show.specs.declared.failure.Failure.TheVariants.{Usage, BadWord, Engine}

-- the words ask for a mode, and if the bytes of the input are known, `Holds` is true of the mode
-- and these bytes
abbrev pub RequestsModeWith : List (List ℕ) → Option (List ℕ) → (Mode → List ℕ → Type 0) → Type 0
RequestsModeWith words known Holds =
    (mode : Mode) × Requests words mode × IfSome known (Holds mode)

-- the bytes are an ASCII text, and `fault` is the index of the first command of the mode that is
-- rejected, if there is one
abbrev pub HasFault : Option ℕ → Mode → List ℕ → Type 0
HasFault fault mode bytes = IsAscii bytes × (fault_of mode bytes ≡ fault)

-- the program may return the result for the words and for what is known of the bytes of the input.
-- `Ok` and `Write`: the words ask for a mode, the input is ASCII, and no command is rejected.
-- `Usage`: the words are not a call. `BadWord`: it holds the number of the first word that the mode
-- does not accept. `NotAscii`: it holds the position of the first non-ASCII byte. `Position`: the
-- input is ASCII, and it holds the index of the first command that is rejected. `Memory`: the words
-- are a call. `Read`: they ask for a mode.
abbrev pub MayReturn : List (List ℕ) → Option (List ℕ) → Result (Unit {0}) Failure → Type 0
MayReturn words known (Ok _) = RequestsModeWith words known (HasFault None)
MayReturn words known (Err Usage) = ¬ (IsCall words)
MayReturn words known (Err (BadWord n)) = HasBadWord words n
MayReturn words known (Err (Engine (NotAscii n))) =
    RequestsModeWith words known (λ mode bytes. FirstOther bytes 0 (length bytes) n)
MayReturn words known (Err (Engine (Position k))) =
    RequestsModeWith words known (HasFault (Some k))
MayReturn words known (Err (Engine Memory)) = IsCall words
MayReturn words known (Err (Engine Read)) = RequestsModeWith words known (λ mode bytes. ⊤)
MayReturn words known (Err (Engine Write)) = RequestsModeWith words known (HasFault None)

-- ---- cited by private functions only

-- what the output took between its old and its new contents. `Ok`: the output of the mode that the
-- words ask for. `Write`: a prefix of it. Nothing otherwise.
abbrev pub Writes : List (List ℕ) → Option (List ℕ) → Result (Unit {0}) Failure
    → Option (List ℕ) → Option (List ℕ) → Type 0
Writes words known (Ok _) old new =
    (output : List ℕ) × RequestsModeWith words known (λ mode bytes. IsOutput mode bytes output)
    × Appends old new output
Writes words known (Err (Engine Write)) old new =
    (sent others : List ℕ)
    × RequestsModeWith words known (λ mode bytes. IsOutput mode bytes (sent ++ others))
    × Appends old new sent
Writes words known other old new = Keeps old new
