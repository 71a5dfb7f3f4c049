-- What `bounded_engine` ensures of the bytes that its reader gave and of those that its writer took.
use Rattle.std.specs.Prelude.{◌≡◌, ◌⊎◌, ℕ, ◌+◌, ◌≤◌, ◌^◌, List, [], ◌++◌, false, length, take}
use Rattle.std.specs.declared.result.Result.{Result}
use Rattle.std.specs.declared.result.Result.TheVariants.{Ok, Err}
use Rattle.ascii.specs.Bytes.{FirstOther}
use Rattle.ascii_run.specs.declared.bounded.BoundedMode.{BoundedMode}
use Rattle.ascii_run.specs.declared.bounded.BoundedMode.TheVariants.{Lines}
use Rattle.ascii_run.specs.declared.faults.BoundedFault.{BoundedFault}
use Rattle.ascii_run.specs.declared.faults.BoundedFault.TheVariants.{NotAscii, TooLong, Memory}
use Rattle.ascii_run.specs.declared.faults.BoundedFault.TheVariants.{Read, Write}
use Rattle.ascii_run.specs.Streamed.{IsCutOutput, IsInput, IsWholeOutput, takes_all}

-- `text` is an input of the mode at the front of the bytes, and `output` is what is written of it if
-- an error ends the input
pub record IsCutAt (mode : BoundedMode) (bytes text output : List ℕ) : Type 0 where
  pub others : List ℕ
  pub front : bytes ≡ text ++ others
  pub input : IsInput mode text
  pub output_of : IsCutOutput mode text output

-- the outcome of a run, by the bytes that the reader gave, whether it is at its end, and the bytes
-- that the writer took. `Ok`: the reader is at its end, and the writer took the output of all that it
-- gave. `NotAscii`: the mode does not take all bytes, the error holds the position of the first
-- non-ASCII byte of those given, and the writer took what is written of the bytes before it if an
-- error ends the input. `TooLong`: the first `2^64` bytes or more are an input, and the writer took
-- what is written of them so. `Memory`: nothing was read or written. `Read`: the writer took what is
-- written so of all bytes given. `Write`: the writer took a prefix of what is written so of a part of
-- the bytes given; or a prefix of the output of all, and the reader is at its end.
abbrev pub BoundedOutcome : BoundedMode → Result (Unit {0}) BoundedFault
    → List ℕ → Type 0 → List ℕ → Type 0
BoundedOutcome mode (Ok _) given at_end took =
    at_end × IsInput mode given × IsWholeOutput mode given took
BoundedOutcome mode (Err (NotAscii n)) given at_end took =
    (takes_all mode ≡ false) × FirstOther given 0 (length given) n
    × IsCutOutput mode (take n given) took
BoundedOutcome mode (Err TooLong) given at_end took =
    (text : List ℕ) × IsCutAt mode given text took × (2 ^ 64 ≤ length text)
BoundedOutcome mode (Err Memory) given at_end took = (given ≡ []) × (took ≡ [])
BoundedOutcome mode (Err Read) given at_end took = IsCutAt mode given given took
BoundedOutcome mode (Err Write) given at_end took =
    (others : List ℕ) × (((text : List ℕ) × IsCutAt mode given text (took ++ others))
    ⊎ (at_end × IsInput mode given × IsWholeOutput mode given (took ++ others)))

-- the reader's count of failures: one more after `Read`, otherwise unchanged; but where a read
-- failed and then the writer, at what `Lines` closes an open line with, the error is `Write`
abbrev pub CountsReads : BoundedMode → Result (Unit {0}) BoundedFault → ℕ → ℕ → Type 0
CountsReads mode (Err Read) old new = new ≡ old + 1
CountsReads mode (Err Write) old new = (new ≡ old) ⊎ ((mode ≡ Lines) × (new ≡ old + 1))
CountsReads mode other old new = new ≡ old
