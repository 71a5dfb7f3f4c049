-- The statuses of the program, what it says of an input, and which inputs it visits.
use Rattle.std.specs.Prelude.{ℕ, ◌≡◌, ◌≢◌, ◌<◌, ◌⊎◌, List, ⊤, None, Some, if◌then◌else◌, ◌==◌}
use Rattle.std.specs.Prelude.{[], ◌∷◌, ◌++◌, All, AllPairs, Any, IsSome, codes, map, max}
use Rattle.std.specs.Prelude.{option_map, slice_get, unwrap_or}
use Rattle.std.specs.declared.option.Option.{Option}
use Rattle.std.specs.declared.result.Result.{Result}
use Rattle.std.specs.declared.result.Result.TheVariants.{Ok, Err}
use Rattle.std.specs.Io.KnownBytes.{IsAtEnd}
use Rattle.std.specs.List.{flat_map}
use Rattle.ascii.specs.Class.{IsPrintable}
use Rattle.ascii_devices.specs.States.{Takes}
use Rattle.ascii_devices.specs.declared.Sink.{Ghosts}
use Rattle.ascii_run.specs.Faults.{bounded_fault_text}
use Rattle.ascii_run.specs.declared.faults.BoundedFault.{BoundedFault}
use Rattle.ascii_run.specs.declared.faults.BoundedFault.TheVariants as bounded
use Rattle.ascii_filter.specs.Checked.{IsAnswer}
use Rattle.ascii_filter.specs.Options.{IsNull, IsQuiet}
use Rattle.ascii_filter.specs.Quoted.{Reads}
use Rattle.ascii_filter.specs.declared.answer.Answer.{Answer}
use Rattle.ascii_filter.specs.declared.failure.Failure.{Failure}
use Rattle.ascii_filter.specs.declared.failure.Failure.TheVariants.{NotAscii, TooLong, Memory}
use Rattle.ascii_filter.specs.declared.failure.Failure.TheVariants.{Input, IsOutput, NotUtf8}
use Rattle.ascii_filter.specs.declared.failure.Verdict.{Verdict}
use Rattle.ascii_filter.specs.declared.options.Task.{Task}

-- the status of a failure: 1 for input that is not ASCII, otherwise 3
abbrev pub status_of : Failure → ℕ
status_of (NotAscii n) = 1
status_of other = 3

-- the line of a failure: that of the same fault of a bounded run; not known if a device failed
abbrev pub failure_text : Failure → Option (List ℕ)
failure_text (NotAscii n) = Some (bounded_fault_text (bounded.NotAscii n))
failure_text TooLong = Some (bounded_fault_text bounded.TooLong)
failure_text Memory = Some (bounded_fault_text bounded.Memory)
failure_text IsOutput = Some (codes "input file is output file")
failure_text NotUtf8 = Some (codes "not valid UTF-8")
failure_text other = None

-- the status of a verdict: that of its failure, or else 1 if `check` found a byte
abbrev pub verdict_status : Verdict → ℕ
verdict_status verdict =
    unwrap_or (option_map status_of verdict.failure) (if verdict.found == 0 then 0 else 1)

-- the failure says that the input could not be read
abbrev pub IsOfDevice : Option Failure → Type 0
IsOfDevice (Some (Input error)) = ⊤
IsOfDevice other = ⊥

-- what is said of the outcome of a task: the failure that names it, if the input is at fault. After
-- `Write` it is not, unless a read had failed before.
abbrev pub IsFailureOf : Result (Unit {0}) BoundedFault → Option Failure → Type 0
IsFailureOf (Ok _) failure = failure ≡ None
IsFailureOf (Err (bounded.NotAscii n)) failure = failure ≡ Some (NotAscii n)
IsFailureOf (Err bounded.TooLong) failure = failure ≡ Some TooLong
IsFailureOf (Err bounded.Memory) failure = failure ≡ Some Memory
IsFailureOf (Err bounded.Read) failure = IsOfDevice failure
IsFailureOf (Err bounded.Write) failure = (failure ≡ None) ⊎ IsOfDevice failure

-- what the program does with one input with this label: it wrote nothing, and the input is at
-- fault; or the verdict is that of an answer of the task, by the bytes that the input gave and
-- those that are left of it
abbrev pub IsVisit : Task → List ℕ → List ℕ → ℕ → ℕ → Verdict → Type 0
IsVisit task label took was now verdict =
    ((took ≡ []) × (verdict.found ≡ 0) × IsSome verdict.failure × (now ≡ was))
    ⊎ ((given : List ℕ) × (rest : Option (List ℕ)) × (answer : Answer)
    × IsAnswer task label answer given (IsAtEnd rest) took was now
    × (verdict.found ≡ answer.found) × IsFailureOf answer.outcome verdict.failure)

-- the word of a call names an input with this name; a word that begins with NUL represents an
-- argument that is not text, of whose name nothing is said
abbrev pub IsNameOf : List ℕ → List ℕ → Type 0
IsNameOf word name = (word ≡ codes "-" → name ≡ codes "(standard input)")
    × (word ≢ codes "-" → slice_get word 0 ≢ Some 0 → name ≡ word)

-- messages call the input with this word and this name `shown`: a file by what a shell reads as
-- its name
abbrev pub IsShownAs : List ℕ → List ℕ → List ℕ → Type 0
IsShownAs word name shown = (word ≡ codes "-" → shown ≡ name)
    × (word ≢ codes "-" → All IsPrintable shown × Reads shown name)

-- the label of an input that a word names: its name and NUL for machines, and otherwise what
-- messages call it and a colon
abbrev pub IsLabelOf : Task → List ℕ → List ℕ → Type 0
IsLabelOf task word label = (name shown : List ℕ) × IsNameOf word name × IsShownAs word name shown
    × (IsNull task → label ≡ name ++ 0 ∷ []) × (¬ (IsNull task) → label ≡ shown ++ codes ":")

-- an input that was visited: the word that names it, its label, what was written of it, how many
-- calls of the writer had failed after it, and the verdict
pub record Visit : Type 0 where
  pub word : List ℕ
  pub label : List ℕ
  pub took : List ℕ
  pub failures : ℕ
  pub verdict : Verdict

-- the label is that of the word, and the visit is as `IsVisit` says, by a writer of which no call
-- had failed
abbrev pub IsVisitOf : Task → Visit → Type 0
IsVisitOf task visit = IsLabelOf task visit.word visit.label
    × IsVisit task visit.label visit.took 0 visit.failures visit.verdict

-- the highest status of the verdicts
abbrev pub highest : List Visit → ℕ
highest [] = 0
highest (visit ∷ visits) = max (verdict_status visit.verdict) (highest visits)

-- after the visit nothing is left to find out: the task writes nothing, and a byte was found
abbrev pub IsEnough : Task → Visit → Type 0
IsEnough task visit = IsQuiet task × (0 < visit.verdict.found)

-- the inputs that `words` name were visited, one after another: the sink took what was written of
-- each, in order, and the status is the highest of their verdicts
pub record Visits {K : Type 0} (says : Ghosts K) (task : Task) (words : List (List ℕ))
    (old new : K) (status : ℕ) : Type 0 where
  pub visits : List Visit
  pub in_order : map (λ visit. visit.word) visits ≡ words
  pub took : Takes says old new (flat_map (λ visit. visit.took) visits)
  pub each : All (IsVisitOf task) visits
  pub goes_on : AllPairs (λ earlier later. ¬ (IsEnough task earlier)) visits
  pub highest_of : status ≡ highest visits

-- of the inputs that `words` name, in order, all were visited; or the first of them, if then a call
-- of the sink had failed, or nothing was left to find out
pub record VisitsAll {K : Type 0} (says : Ghosts K) (task : Task) (words : List (List ℕ))
    (old new : K) (status : ℕ) : Type 0 where
  pub visited : List (List ℕ)
  pub others : List (List ℕ)
  pub parts : visited ++ others ≡ words
  pub run : Visits says task visited old new status
  pub ends : (others ≡ []) ⊎ ((0 < says.failures new) ⊎ Any (IsEnough task) run.visits)
