-- What a task comes to at an input: what was written of which bytes, and why it stopped.
use Rattle.std.specs.Prelude.{◌≡◌, ◌≢◌, ◌⊎◌, ℕ, ◌+◌, ◌-◌, ◌<◌, ◌≤◌, ◌^◌, ◌/◌, ◌%◌, List, [], ◌∷◌}
use Rattle.std.specs.Prelude.{◌++◌, ⊤}
use Rattle.std.specs.Prelude.{◌||◌, if◌then◌else◌, nat_lt, codes, decimal, length}
use Rattle.std.specs.List.{flat_map}
use Rattle.std.specs.declared.result.Result.{Result}
use Rattle.std.specs.declared.result.Result.TheVariants.{Ok, Err}
use Rattle.ascii_run.specs.Bounded.{BoundedOutcome}
use Rattle.ascii_run.specs.Reading.{Counts}
use Rattle.ascii_run.specs.declared.faults.BoundedFault.{BoundedFault}
use Rattle.ascii_run.specs.declared.faults.BoundedFault.TheVariants.{Read, TooLong, Memory, Write}
use Rattle.ascii_filter.specs.Places.{others_of}
use Rattle.ascii_filter.specs.declared.answer.Answer.{Answer}
use Rattle.ascii_filter.specs.declared.options.Check.{Check}
use Rattle.ascii_filter.specs.declared.options.Task.{Task}
use Rattle.ascii_filter.specs.declared.options.Task.TheVariants as task
use Rattle.ascii_filter.specs.declared.scanner.OtherByte.{OtherByte}

-- the upper-case hexadecimal digit of a number less than 16
abbrev pub upper_hex : ℕ → ℕ
upper_hex n = if nat_lt n 10 then 48 + n else 55 + n

-- what is said of a non-ASCII byte: its line, its column and its value
abbrev pub place_text : OtherByte → List ℕ
place_text other = decimal other.place.line ++ (codes ":"
    ++ (decimal other.place.column ++ (codes ": byte 0x"
    ++ upper_hex (other.byte / 16) ∷ upper_hex (other.byte % 16) ∷ 10 ∷ [])))

-- what `check` writes of a byte that it finds, unless it counts or is quiet: the label of its
-- input, and what is said of it
abbrev pub shown_place : Check → List ℕ → OtherByte → List ℕ
shown_place check label other =
    if check.is_count || check.is_quiet then [] else label ++ place_text other

-- what `check` writes at the end: the label and the number of bytes found, if it counts, is not
-- quiet and has not failed
abbrev pub shown_count : Check → List ℕ → ℕ → Result (Unit {0}) BoundedFault → List ℕ
shown_count check label found (Ok _) = if check.is_quiet then [] else
    (if check.is_count then label ++ (decimal found ++ codes "\n") else [])
shown_count check label found (Err _) = []

-- why `check` looked at no more than the bytes before `others`, after it has found `found` bytes.
-- `Ok`: there are no others, and the input is at its end; or as many were found as were asked for.
-- `Read`: no others were given. `TooLong`: more bytes were given than can be counted. `Memory`:
-- nothing was read. `Write`: a write failed.
abbrev pub StopsAt : Result (Unit {0}) BoundedFault → Check → ℕ → List ℕ → List ℕ → Type 0 → Type 0
StopsAt (Ok _) check found given others at_end =
    ((others ≡ []) × at_end) ⊎ (found ≡ check.most)
StopsAt (Err Read) check found given others at_end = others ≡ []
StopsAt (Err TooLong) check found given others at_end = 2 ^ 64 - 3 < length given
StopsAt (Err Memory) check found given others at_end = given ≡ []
StopsAt (Err Write) check found given others at_end = ⊤
StopsAt (Err other) check found given others at_end = ⊥

-- `check` looked at `text`, the first of the bytes that were given, and found its non-ASCII bytes,
-- at most as many as were asked for
pub record LooksAt (check : Check) (answer : Answer) (given : List ℕ) (at_end : Type 0)
    (text : List ℕ) : Type 0 where
  pub others : List ℕ
  pub front : given ≡ text ++ others
  pub found : answer.found ≡ length (others_of text)
  pub most : answer.found ≤ check.most
  pub stops : StopsAt answer.outcome check answer.found given others at_end

-- what `check` writes of a text: what is shown of its non-ASCII bytes, in order, and at the end
abbrev pub check_output : Check → List ℕ → Answer → List ℕ → List ℕ
check_output check label answer text =
    flat_map (shown_place check label) (others_of text)
    ++ shown_count check label answer.found answer.outcome

-- of the output, `took` was written: all of it, and no call of the sink failed, as its counts of
-- failures say; or a prefix, and one failed. After `Write` one did.
abbrev pub IsWritten : Answer → List ℕ → List ℕ → ℕ → ℕ → Type 0
IsWritten answer output took was now =
    ((took ≡ output) × (now ≡ was) × (answer.outcome ≢ Err Write))
    ⊎ ((others : List ℕ) × (took ++ others ≡ output) × (now ≡ was + 1))

-- the answer of a task to an input with this label, by the bytes that the reader gave, whether it
-- is at its end, the bytes that the writer took, and the writer's counts of failures before and
-- after. A mode: it found nothing, and its outcome is that of a run in bounded memory. `check`: its
-- output was written, or a prefix of it.
abbrev pub IsAnswer : Task → List ℕ → Answer → List ℕ → Type 0 → List ℕ → ℕ → ℕ → Type 0
IsAnswer (task.Filter mode other) label answer given at_end took was now =
    (answer.found ≡ 0) × BoundedOutcome mode answer.outcome given at_end took
    × Counts Write was now answer.outcome
IsAnswer (task.Check check) label answer given at_end took was now =
    (text : List ℕ) × LooksAt check answer given at_end text
    × IsWritten answer (check_output check label answer text) took was now
