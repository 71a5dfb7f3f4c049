-- The options of the program: the task that the words of a call ask for.
use Rattle.std.specs.Prelude.{◌≡◌, ◌≢◌, ◌⊎◌, ℕ, ◌^◌, ◌-◌, ◌<◌, ◌≤◌, ◌/◌, ◌%◌, List, [], ◌∷◌, codes}
use Rattle.std.specs.Prelude.{length}
use Rattle.std.specs.Prelude.{Bool, true, false, if◌then◌else◌, map, nat_lt, option_map}
use Rattle.std.specs.Prelude.{unwrap_or}
use Rattle.std.specs.Borrow.{Bor}
use Rattle.std.specs.Char.{digit_char}
use Rattle.std.specs.List.{flat_map}
use Rattle.std.specs.declared.result.Result.{Result}
use Rattle.std.specs.declared.result.Result.TheVariants.{Ok, Err}
use Rattle.std.specs.declared.option.Option.{Option}
use Rattle.std.specs.declared.option.Option.TheVariants.{None, Some}
use Rattle.clap.specs.declared.parser.matches.Found.{Found}
use Rattle.clap.specs.Words.{first_value, matched_of, one_text, raw_values}
use Rattle.ascii_run.specs.Names.{IsBoundedName, bounded_name}
use Rattle.ascii_run.specs.declared.bounded.BoundedMode.{BoundedMode}
use Rattle.ascii_run.specs.declared.bounded.BoundedMode.TheVariants.{Copy, Json}
use Rattle.ascii_filter.specs.declared.options.Options.{Options}
use Rattle.ascii_filter.specs.declared.options.Other.{Other}
use Rattle.ascii_filter.specs.declared.options.Other.TheVariants.{Stop, Replace, Escape}
use Rattle.ascii_filter.specs.declared.options.Task.{Task}
use Rattle.ascii_filter.specs.declared.options.Task.TheVariants.{Filter, Check}

-- the task writes nothing
abbrev pub IsQuiet : Task → Type 0
IsQuiet (Filter mode other) = ⊥
IsQuiet (Check check) = check.is_quiet ≡ true

-- the task writes names for machines
abbrev pub IsNull : Task → Type 0
IsNull (Filter mode other) = ⊥
IsNull (Check check) = check.is_null ≡ true

-- a byte, or `?` if it is above 127
unfoldable pub replaced : ℕ → ℕ
replaced byte = if nat_lt byte 128 then byte else 63

-- `\x` and the two hexadecimal digits of a byte
abbrev pub escape_of : ℕ → List ℕ
escape_of byte = 92 ∷ 120 ∷ digit_char (byte / 16) ∷ digit_char (byte % 16) ∷ []

-- a byte, or its escape if it is above 127
unfoldable pub escaped : ℕ → List ℕ
escaped byte = if nat_lt byte 128 then byte ∷ [] else escape_of byte

-- what the task does with a byte above 127
abbrev pub other_of : Task → Other
other_of (Filter mode other) = other
other_of (Check check) = Stop

-- what is read of bytes, if they are known: the bytes, or each above 127 as `?`, or as its escape
abbrev pub given_by : Other → Option (List ℕ) → Option (List ℕ)
given_by Stop bytes = bytes
given_by Replace bytes = option_map (map replaced) bytes
given_by Escape bytes = option_map (flat_map escaped) bytes

-- the bytes that a task is given of an input, if the input's are known
abbrev pub given_to : Task → Option (List ℕ) → Option (List ℕ)
given_to task bytes = given_by (other_of task) bytes

-- what the word after `--other` names
abbrev pub IsOtherOf : List ℕ → Other → Type 0
IsOtherOf word Stop = (word ≢ codes "replace") × (word ≢ codes "escape")
IsOtherOf word Replace = word ≡ codes "replace"
IsOtherOf word Escape = word ≡ codes "escape"

-- a flag is as its value says, and not set if it has none
abbrev pub IsFlagOf : Option (List ℕ) → Bool → Type 0
IsFlagOf None flag = flag ≡ false
IsFlagOf (Some value) flag =
    (value ≡ codes "true" → flag ≡ true) × (value ≡ codes "false" → flag ≡ false)

-- the options are those among the arguments that were found; without a value, `--max` is not there
pub record AreOptionsOf (found : Found) (options : Options) : Type 0 where
  pub mode : options.mode.now ≡ unwrap_or (first_value found (codes "MODE")) []
  pub files : options.files
      ≡ length (unwrap_or (option_map raw_values (matched_of found (codes "FILE"))) [])
  pub count : IsFlagOf (one_text found (codes "count")) options.is_count
  pub quiet : IsFlagOf (one_text found (codes "quiet")) options.is_quiet
  pub null : IsFlagOf (one_text found (codes "null")) options.is_null
  pub max : one_text found (codes "max") ≡ None → options.max ≡ None
  pub other : options.other.now ≡ unwrap_or (first_value found (codes "other")) []

-- no option of `check` was set
abbrev pub HasNoOptionOfCheck : Options → Type 0
HasNoOptionOfCheck options =
    (options.is_count ≡ false) × (options.is_quiet ≡ false) × (options.is_null ≡ false)
    × (options.max ≡ None)

-- the word is the name of a mode other than `check`
abbrev pub IsModeName : List ℕ → Type 0
IsModeName word = IsBoundedName word ⊎ (word ≡ codes "lossy")

-- the mode that the word names, and what it does with a byte above 127 if `--other` names `other`:
-- `lossy` is `copy` that reads such a byte as `?`, and takes no `--other`
abbrev pub NamesMode : List ℕ → Other → BoundedMode × Other → Type 0
NamesMode word other named =
    ((word ≡ codes "lossy") × (other ≡ Stop) × (named ≡ (Copy, Replace)))
    ⊎ ((word ≡ bounded_name named.0) × (named.1 ≡ other))

-- a mode with the name does not take `--other`
abbrev pub TakesNoOther : List ℕ → Type 0
TakesNoOther word = (word ≡ codes "check") ⊎ (word ≡ codes "lossy")

-- the outcome of the options: the task, or the line that says what is wrong with them
abbrev pub TaskOutcome : Options → Result Task (Bor (List ℕ)) → Type 0
TaskOutcome options (Ok (Filter mode other)) =
    ((said : Other) × IsOtherOf options.other.now said
    × NamesMode options.mode.now said (mode, other))
    × HasNoOptionOfCheck options × (mode ≡ Json → options.files ≤ 1)
TaskOutcome options (Ok (Check check)) =
    (options.mode.now ≡ codes "check") × IsOtherOf options.other.now Stop
    × (check.is_count ≡ options.is_count)
    × (check.is_quiet ≡ options.is_quiet) × (check.is_null ≡ options.is_null)
    × (check.most ≡ if options.is_quiet then 1 else unwrap_or options.max (2 ^ 64 - 1))
TaskOutcome options (Err line) =
    ((line.now ≡ codes "ascii_filter: there is no such mode\n")
    × (options.mode.now ≢ codes "check") × ¬ (IsModeName options.mode.now))
    ⊎ (((line.now ≡ codes "ascii_filter: --other is not an option of check or lossy\n")
    × TakesNoOther options.mode.now × ¬ (IsOtherOf options.other.now Stop))
    ⊎ (((line.now ≡ codes "ascii_filter: --count, --max, --null and --quiet are options of check\n")
    × IsModeName options.mode.now × ¬ (HasNoOptionOfCheck options))
    ⊎ ((line.now ≡ codes "ascii_filter: json takes one input\n")
    × (options.mode.now ≡ bounded_name Json) × HasNoOptionOfCheck options
    × (1 < options.files))))
